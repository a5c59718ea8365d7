-- `job::checks::check_job` meets its contract: the checks before the words, then the words.
use mathlib.Core.Path.{sym, ap, ◌∙◌}
use Rattle.answer.specs.Refusal.{answer_of}
use Rattle.answer.proofs.Laws.{handed-on, is-refused, is-done, answers}
use Rattle.job.proofs.Refusals.{first-refused, words-decide}
use Rattle.job.proofs.checks.check_job.Goals as goal

pub returns-in_err-check_counts : goal.returns-in_err-check_counts
returns-in_err-check_counts c = handed-on _ c.from_residual.ensures.1 ∙ answers (first-refused _ _ _ _ _ (is-refused _ (sym c.in_err-check_counts.was ∙ c.check_counts.ensures)))

pub returns : goal.returns
returns c =
    c.check_words.ensures ∙ ap answer_of (words-decide _ _ _ _ _ (is-done _ (sym c.in_ok-check_counts.was ∙ c.check_counts.ensures)))
