-- `check_line` meets its contract: one check after the other.
use native.Mathlib.Omega.{arith}
use mathlib.Core.Path.{◌≡◌, sym, ◌∙◌}
use mathlib.Core.Option.{none}
use Rattle.answer.specs.Refusal.{accepted, not_rounds, too_short}
use Rattle.answer.proofs.Laws.{handed-on, is-refused, is-done, answers, accepts}
use Rattle.answer.proofs.Refusals.{rounds-accepted, rounds-later, rounds-still, room-accepted, room-refused}
use Rattle.judge.specs.Checks.{not_rows}
use Rattle.judge.proofs.Passed.{rows-still, rows-passed}
use Rattle.verdict_line.specs.Line.{LINE-MOST}
use Rattle.verdict_line.specs.Lent.{Ready}
use Rattle.verdict_line.proofs.Lent.{ready-later}
use Rattle.verdict_line.proofs.check_line.Goals as goal

pub returns-in_err-check_rounds : goal.returns-in_err-check_rounds
returns-in_err-check_rounds c =
    let a = c.args in
    handed-on _ c.from_residual.ensures.1 ∙ answers (rounds-still a.nr (not_rows a.core.now a.round.now (too_short a.room LINE-MOST accepted)) (is-refused _ (sym c.in_err-check_rounds.was ∙ c.check_rounds.ensures)))

pub returns-in_err-check_rows : goal.returns-in_err-check_rows
returns-in_err-check_rows c =
    let rounds-are : not_rounds c.args.nr accepted ≡ none = is-done _ (sym c.in_ok-check_rounds.was ∙ c.check_rounds.ensures) in
    let a = c.args in
    let n = (rounds-accepted a.nr).0 rounds-are in
    handed-on _ c.from_residual-in_err-check_rows.ensures.1 ∙ answers (rounds-later a.nr _ n.0 n.1 ∙ rows-still a.core.now a.round.now (too_short a.room LINE-MOST accepted) (is-refused _ (sym c.in_err-check_rows.was ∙ c.check_rows.ensures)))

pub returns : goal.returns
returns c =
    let rounds-are : not_rounds c.args.nr accepted ≡ none = is-done _ (sym c.in_ok-check_rounds.was ∙ c.check_rounds.ensures) in
    let ready : Ready c.args.nr c.args.core.now c.args.round.now = (let n = (rounds-accepted _).0 rounds-are in
    let w = rows-passed _ _ accepted (is-done _ (sym c.in_ok-check_rows.was ∙ c.check_rows.ensures)) in
    (n.0, n.1, w.0, w.1)) in
    accepts (ready-later _ _ _ _ ready ∙ (room-accepted c.args.room LINE-MOST).1 (omega arith))

pub returns-then-room-lt-LINE_MOST : goal.returns-then-room-lt-LINE_MOST
returns-then-room-lt-LINE_MOST c = let rounds-are : not_rounds c.args.nr accepted ≡ none = (is-done _ (sym c.in_ok-check_rounds.was ∙ c.check_rounds.ensures)) in let ready : Ready c.args.nr c.args.core.now c.args.round.now = (let n = (rounds-accepted _).0 rounds-are in
    let w = rows-passed _ _ accepted (is-done _ (sym c.in_ok-check_rows.was ∙ c.check_rows.ensures)) in
    (n.0, n.1, w.0, w.1)) in answers (ready-later _ _ _ _ ready ∙ room-refused c.args.room LINE-MOST accepted (omega arith))
