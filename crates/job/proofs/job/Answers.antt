-- `job::job` meets its contract: the checks, and then the report.
use mathlib.Core.Path.{sym, ◌∙◌}
use Rattle.answer.proofs.Laws.{handed-on, is-refused, is-done, answers, accepts, kept, written}
use Rattle.job.proofs.Refusals.{job-accepted}
use Rattle.job.proofs.job.Goals as goal

pub returns-in_err-check_job : goal.returns-in_err-check_job
returns-in_err-check_job c =
    let e = is-refused _ (sym c.in_err-check_job.was ∙ c.check_job.ensures) in
    record { answer = handed-on _ c.from_residual.ensures.1 ∙ answers e; words = kept _ _ e }

pub put_report-requires : goal.put_report-requires
put_report-requires c =
    let h = (job-accepted _ _ _ _ _).0 (is-done _ (sym c.in_ok-check_job.was ∙ c.check_job.ensures)) in (h.most, h.tables, h.split, h.long)

pub returns : goal.returns
returns c =
    let e = is-done _ (sym c.in_ok-check_job.was ∙ c.check_job.ensures) in
    record { answer = accepts e; words = written _ e c.put_report.ensures }
