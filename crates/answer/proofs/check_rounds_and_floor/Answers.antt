-- `answer::check_rounds_and_floor` meets its contract: one check after the other.
use mathlib.Core.Path.{sym, ap, ◌∙◌}
use Rattle.answer.specs.Refusal.{accepted, not_floor, answer_of}
use Rattle.answer.proofs.Laws.{answers, handed-on, is-refused, is-done}
use Rattle.answer.proofs.Refusals.{rounds-accepted, rounds-later, rounds-still}
use Rattle.answer.proofs.check_rounds_and_floor.Goals as goal

pub returns-in_err-check_rounds : goal.returns-in_err-check_rounds
returns-in_err-check_rounds c =
    let args = c.args in
    handed-on _ c.from_residual.ensures.1
    ∙ answers (rounds-still args.nr (not_floor args.floor accepted) (is-refused _ (sym c.in_err-check_rounds.was ∙ c.check_rounds.ensures)))

pub returns : goal.returns
returns c =
    let args = c.args in
    let h = (rounds-accepted args.nr).0 (is-done _ (sym c.in_ok-check_rounds.was ∙ c.check_rounds.ensures)) in
    c.check_floor.ensures ∙ ap answer_of (sym (rounds-later args.nr (not_floor args.floor accepted) h.0 h.1))
