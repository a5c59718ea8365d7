-- `judge::verdict` meets its contract: the number of rounds, then the tables.
use mathlib.Core.Path.{sym, ◌∙◌}
use Rattle.answer.proofs.Laws.{is-refused, is-done}
use Rattle.verdict.specs.CoreAndRound.{verdict_for}
use Rattle.verdict.proofs.Stages.{passes, answers}
use Rattle.judge.proofs.verdict.Goals as goal

pub returns-in-Err : goal.returns-in-Err
unfolding verdict_for
returns-in-Err c = sym (answers _ _ _ _ (is-refused _ (sym c.in-Err.is ∙ c.check_rounds.ensures)))

pub returns : goal.returns
unfolding verdict_for
returns c = c.judged.ensures ∙ sym (passes _ _ _ (is-done _ (sym c.in_default.is ∙ c.check_rounds.ensures)))
