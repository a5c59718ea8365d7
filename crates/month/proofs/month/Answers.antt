-- `month::month` meets its contract: the checks, then the words.
use mathlib.Core.Path.{sym, ◌∙◌}
use Rattle.answer.proofs.Laws.{is-refused, is-done, answers, kept, accepts, written, handed-on}
use Rattle.month.proofs.Refusals.{month-accepted}
use Rattle.month.proofs.month.Goals as goal

pub returns-in_err-check_month : goal.returns-in_err-check_month
returns-in_err-check_month c =
    let e = is-refused _ (sym c.in_err-check_month.was ∙ c.check_month.ensures) in
    record { answer = handed-on _ c.from_residual.ensures.1 ∙ answers e; words = kept _ _ e }

pub put_month-requires : goal.put_month-requires
put_month-requires c = (month-accepted _ _ _ _).0 (is-done _ (sym c.in_ok-check_month.was ∙ c.check_month.ensures))

pub returns : goal.returns
returns c =
    let e = is-done _ (sym c.in_ok-check_month.was ∙ c.check_month.ensures) in
    record { answer = accepts e; words = written _ e c.put_month.ensures }
