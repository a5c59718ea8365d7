-- The report on a job in lent memory.
--     job_within_refusal    the refusals: those of `job`, with 3 on scratch and spare between 3 on the report and 5
--     job_within_after      what the report holds afterwards: the words that `job` reports
--     job_scratch_after     what a lent slice holds afterwards: zeros in the words that are used
--     AcceptableWithin    a call that is not refused
use Rattle.std.specs.Prelude.{List, ℕ, ◌≤◌, length}
use Rattle.std.proofs.Math.Option.{Option}
use Rattle.lists.specs.Tab.{tab}
use Rattle.answer.specs.Refusal.{accepted, too_short, overwrite, afterwards}
use Rattle.answer.specs.declared.Refusal.{Refusal}
use Rattle.judge.specs.Checks.{not_words}
use Rattle.sort_places.specs.Places.{place_count}
use Rattle.job.specs.Report.{not_job, report_words, AcceptableJob}

-- Two words a row of both tables in each of two slices, of `scratch` and of `spare` words. A segment has no more rows than the job.
unfoldable pub job_within_refusal : ℕ → List ℕ → List ℕ → List ℕ → ℕ → ℕ → ℕ → Option Refusal
job_within_refusal nr core round counts room scratch spare =
    not_job nr core round counts room
    (too_short scratch (place_count core round)
    (too_short spare (place_count core round)
    (not_words core round
    accepted)))

unfoldable pub job_within_after : ℕ → List ℕ → List ℕ → List ℕ → ℕ → ℕ → List ℕ → List ℕ
job_within_after nr core round counts scratch spare report =
    afterwards (job_within_refusal nr core round counts (length report) scratch spare) (overwrite (report_words nr core round counts) report) report

unfoldable pub job_scratch_after : ℕ → List ℕ → List ℕ → List ℕ → ℕ → ℕ → ℕ → List ℕ → List ℕ
job_scratch_after nr core round counts room scratch spare old =
    afterwards (job_within_refusal nr core round counts room scratch spare) (overwrite (tab (place_count core round) (λ k. 0)) old) old

-- none of the conditions is met (proofs/Within.antt: `within-accepted`)
pub record AcceptableWithin (nr : ℕ) (core round counts : List ℕ) (room scratch spare : ℕ) : Type 0 where
  pub job : AcceptableJob nr core round counts room
  pub scratch-long : place_count core round ≤ scratch
  pub spare-long : place_count core round ≤ spare
