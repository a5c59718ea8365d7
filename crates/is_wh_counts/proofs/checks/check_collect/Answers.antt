-- `is_wh_counts::checks::check_collect` meets its contract: the checks of the rows, then the counters.
use mathlib.Core.Path.{sym, ◌∙◌}
use Rattle.lists.proofs.First.{place_at, place-nowhere}
use Rattle.answer.specs.Refusal.{accepted}
use Rattle.answer.proofs.Laws.{is-refused, is-done, answers, accepts, handed-on}
use Rattle.is_wh_rows.proofs.Lists.{rows-passed}
use Rattle.is_wh_counts.proofs.Refusals.{rows-refused, counter-refused, counters-pass}
use Rattle.is_wh_counts.proofs.checks.check_collect.Goals as goal

pub returns-in_err-check_rows : goal.returns-in_err-check_rows
returns-in_err-check_rows c =
    handed-on _ c.from_residual.ensures.1 ∙ answers (rows-refused _ _ (is-refused _ (sym c.in_err-check_rows.was ∙ c.check_rows.ensures)))

pub first_charged-requires : goal.first_charged-requires
first_charged-requires c =
    let a = rows-passed _ _ _ accepted (is-done _ (sym c.in_ok-check_rows.was ∙ c.check_rows.ensures)) in
    (a.0, a.1)

pub returns-in-Some : goal.returns-in-Some
returns-in-Some c =
    let a = rows-passed _ _ _ accepted (is-done _ (sym c.in_ok-check_rows.was ∙ c.check_rows.ensures)) in
    answers (counter-refused _ _ a.0 a.1 _ (place_at _ (sym c.in-Some.is ∙ c.first_charged.ensures)))

pub returns : goal.returns
returns c =
    let a = rows-passed _ _ _ accepted (is-done _ (sym c.in_ok-check_rows.was ∙ c.check_rows.ensures)) in
    accepts (counters-pass _ _ a.0 a.1 (place-nowhere _ (sym c.in_default.is ∙ c.first_charged.ensures)))
