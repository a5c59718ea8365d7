-- What the two calls that judge a job promise (src/job_calls.rt), as Kept.antt says.
use mathlib.Core.Path.{◌≡◌}
use lib.ListN.{length}
use Rattle.answer.specs.Refusal.{answer_of}
use Rattle.job.specs.Report.{job_refusal, job_after}
use Rattle.job.specs.Within.{job_within_refusal, job_within_after, job_scratch_after}
use Rattle.flat.specs.Flat.{flat_answer}
use Rattle.keccak_tables.proofs.Kept.{Kept}
use Rattle.keccak_tables.proofs.job_calls.keccak_tables_job.Kinds as job-kinds
use Rattle.keccak_tables.proofs.job_calls.keccak_tables_job.Reads as job-reads
use Rattle.keccak_tables.proofs.job_calls.keccak_tables_job_within.Kinds as job-within-kinds
use Rattle.keccak_tables.proofs.job_calls.keccak_tables_job_within.Reads as job-within-reads

pub record JobCalls : Type 0 where
  -- job(nr, core, round, counts, report) → FlatAnswer
  pub job : Kept _ job-kinds.ps job-kinds.r job-reads.Asked job-reads.Learnt (λ _ lent answer ended.
      let nr = lent.0 in
      let core = lent.1.0.now in
      let round = lent.1.1.0.now in
      let counts = lent.1.1.1.0.now in
      let report = lent.1.1.1.1.0.now in
      let report' = ended.1.1.1.1.0.now in
      (answer ≡ flat_answer (answer_of (job_refusal nr core round counts (length report))))
      × (report' ≡ job_after nr core round counts report))
  -- job_within(nr, core, round, counts, report, scratch, spare) → FlatAnswer
  pub job-within : Kept _ job-within-kinds.ps job-within-kinds.r job-within-reads.Asked job-within-reads.Learnt (λ _ lent answer ended.
      let nr = lent.0 in
      let core = lent.1.0.now in
      let round = lent.1.1.0.now in
      let counts = lent.1.1.1.0.now in
      let report = lent.1.1.1.1.0.now in
      let scratch = lent.1.1.1.1.1.0.now in
      let spare = lent.1.1.1.1.1.1.0.now in
      let report' = ended.1.1.1.1.0.now in
      let scratch' = ended.1.1.1.1.1.0.now in
      let spare' = ended.1.1.1.1.1.1.0.now in
      (answer ≡ flat_answer (answer_of (job_within_refusal nr core round counts (length report) (length scratch) (length spare))))
      × ((report' ≡ job_within_after nr core round counts (length scratch) (length spare) report)
      × ((scratch' ≡ job_scratch_after nr core round counts (length report) (length scratch) (length spare) scratch)
      × (spare' ≡ job_scratch_after nr core round counts (length report) (length scratch) (length spare) spare))))

pub job-calls : JobCalls
job-calls =
    record {
      job = record { wants-nothing = λ _ _. tt; tells = λ _ _ _ _ e. e };
      job-within = record { wants-nothing = λ _ _. tt; tells = λ _ _ _ _ e. e };
    }
