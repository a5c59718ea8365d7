-- More statements of Item 10, segments, then the job (job/specs/Report.antt; Statements.antt has the others): what a job is refused for, and a
-- round row that was filed with the wrong segment. `Reported` (job/proofs/Tied.antt) is a call of `job` that was not refused, and what its
-- slice holds when it ends.
use mathlib.Core.Path.{◌≡◌, refl, sym}
use mathlib.Core.List.{List, [], ◌∷◌, ◌++◌}
use mathlib.Core.Logic.{◌↔◌}
use mathlib.Core.Option.{some}
use Prim.Native.Nat.{ℕ, ◌+◌, ◌*◌, ◌≤◌, ◌<◌}
use native.Mathlib.Omega.{arith}
use Rattle.lists.specs.Tab.{word, row_at}
use Rattle.answer.specs.Refusal.{accepted, refusal_number, refusal_detail}
use Rattle.answer.specs.declared.Refusal.{Refusal}
use Rattle.answer.specs.declared.Refusal.TheVariants.{NotWhole, TooShort, Rounds}
use Rattle.verdict.specs.Kind.{row, Active, SameTimestamp, Whole}
use Rattle.verdict.specs.CoreAndRound.{core_layout, round_layout, verdict_at}
use Rattle.verdict.specs.Failures.{NoRounds}
use Rattle.verdict.specs.Honest.{witness, last_witness, one_core, one_round}
use Rattle.verdict.specs.declared.Verdict.TheVariants.{Holds, Repeated}
use Rattle.judge.specs.Checks.{not_words}
use Rattle.job.specs.Report.{segment_count, job_segment, verdict_on, Split, AcceptableJob, not_job, job_refusal}
use Rattle.job.specs.Within.{job_within_refusal}
use Rattle.job.proofs.Refusals as refusals
use Rattle.job.proofs.Within as within
use Rattle.job.proofs.Misfiled.{IsUnbalanced, both_hold, both-accepted, two-filed, two-right}
use Rattle.job.proofs.Shared.{twice-hold, twice-named}
use Rattle.job.proofs.Tied.{Reported, reported-stranger, reported-misfiled, reported-filed, reported-two}
use Rattle.statements.proofs.Statements.{rounds-first}

-- "a list not of pairs, or whose whole sums are not the tables' rows, is refused by 2 with detail 2": after 8, and 2 of the tables; before 3 of
-- the report, whose detail is four words a segment and four for the job, and 5. So it is of `job` and of `job_within`, whatever its scratch is
module _ (nr : ℕ) (core round counts : List ℕ) (room scratch spare : ℕ) where
  -- both calls are refused so
  abbrev Refused : Refusal → Type 0
  Refused r = (job_refusal nr core round counts room ≡ some r) × (job_within_refusal nr core round counts room scratch spare ≡ some r)

  first : {r : Refusal} → not_job nr core round counts room accepted ≡ some r → Refused r
  first e = (refusals.first-refused nr core round counts room e, within.first-refused nr core round counts room scratch spare e)

  pub job-no-rounds : NoRounds nr → Refused (Rounds nr)
  job-no-rounds h = first (refusals.rounds-refused nr core round counts room accepted (rounds-first nr accepted h))

  module _ (range : (1 ≤ nr) × (nr ≤ 24)) where
    pub job-core-ragged : (Whole core_layout core → ⊥) → Refused (NotWhole 0)
    job-core-ragged h = first (refusals.rows-refused nr core round counts room accepted range (refusals.core-ragged core round counts h))

    pub job-round-ragged : Whole core_layout core → (Whole round_layout round → ⊥) → Refused (NotWhole 1)
    job-round-ragged c h = first (refusals.rows-refused nr core round counts room accepted range (refusals.round-ragged core round counts c h))

    module _ (whole : Whole core_layout core × Whole round_layout round) where
      pub job-not-split : (Split core round counts → ⊥) → Refused (NotWhole 2)
      job-not-split h = first (refusals.counts-refused nr core round counts room accepted range whole (refusals.not-split core round counts h))

      module _ (split : Split core round counts) where
        pub job-short : room < (segment_count counts + 1) * 4 → Refused (TooShort ((segment_count counts + 1) * 4))
        job-short l = first (refusals.room-refused nr core round counts room accepted range whole (refusals.is-split core round counts split) l)

        -- and last 5, of `job`; `job_within` has its scratch and spare before it (`job-within-scratch`, `job-within-words`)
        pub job-words-last : (segment_count counts + 1) * 4 ≤ room → job_refusal nr core round counts room ≡ not_words core round accepted
        job-words-last l =
            sym (refusals.words-decide nr core round counts room
            (refusals.later-decide nr core round counts room accepted range whole (refusals.is-split core round counts split) l))

pub case-by-2 : (refusal_number (NotWhole 2) ≡ 2) × (refusal_detail (NotWhole 2) ≡ 2)
case-by-2 = (refl, refl)

-- "A job can hold while a segment fails, because a round row was filed with the wrong segment": where the job holds, a segment with an active
-- round row whose timestamp no active core row of it has fails, by 6, an unbalanced tuple ..
module _ {nr : ℕ} {core round counts before after : List ℕ} (call : Reported nr core round counts before after)
    (holds : word after (segment_count counts * 4) ≡ 0) where
  abbrev core_of : ℕ → List ℕ
  core_of i = (job_segment core round counts i).core-table

  abbrev round_of : ℕ → List ℕ
  round_of i = (job_segment core round counts i).round-table

  pub job-stranger : (i : ℕ) → i < segment_count counts → (q : ℕ) → Active round_layout (round_of i) q →
      ((r : ℕ) → Active core_layout (core_of i) r → SameTimestamp (row round_layout (round_of i) q) (row core_layout (core_of i) r) → ⊥) →
      word after (i * 4) ≡ 6
  job-stranger = reported-stranger call holds

  -- .. and where that timestamp is active in another segment, both fail
  pub job-wrong-segment : (i j : ℕ) → i < segment_count counts → j < segment_count counts → (i ≡ j → ⊥) → (q r : ℕ) →
      Active round_layout (round_of i) q → Active core_layout (core_of j) r → SameTimestamp (row round_layout (round_of i) q) (row core_layout (core_of j) r) →
      (word after (i * 4) ≡ 6) × (word after (j * 4) ≡ 6)
  job-wrong-segment = reported-misfiled call holds

  -- for no other reason: all segments of a job that holds do so exactly where each active round row of a segment has the timestamp of an active
  -- core row of that segment
  pub job-filed : ((i : ℕ) → i < segment_count counts → word after (i * 4) ≡ 0)
      ↔ ((i : ℕ) → i < segment_count counts → (q : ℕ) → Active round_layout (round_of i) q →
      (r : ℕ) × Active core_layout (core_of i) r × SameTimestamp (row round_layout (round_of i) q) (row core_layout (core_of i) r))
  job-filed = reported-filed call holds

-- and such a job: two segments as they are written, of one operation each, 4 core rows and 32 round rows, where the first round row of the
-- second is filed with the first. The job holds with 2, and both segments fail, by an unbalanced tuple; filed right, both hold
abbrev cores : List ℕ
cores = one_core witness ++ one_core last_witness

abbrev rounds : List ℕ
rounds = one_round witness ++ one_round last_witness

abbrev filed : List ℕ
filed = 4 ∷ 33 ∷ 4 ∷ 31 ∷ []

abbrev right : List ℕ
right = 4 ∷ 32 ∷ 4 ∷ 32 ∷ []

pub case-misfiled : (verdict_at 24 cores rounds ≡ Holds 2) × IsUnbalanced (verdict_on 24 cores rounds filed 0) × IsUnbalanced (verdict_on 24 cores rounds filed 1)
case-misfiled = (both_hold, two-filed.0, two-filed.1)

pub case-filed : (verdict_on 24 cores rounds right 0 ≡ Holds 1) × (verdict_on 24 cores rounds right 1 ≡ Holds 1)
case-filed = two-right

-- of a call: twelve words are enough for its report
pub case-misfiled-taken : AcceptableJob 24 cores rounds filed 12
case-misfiled-taken = both-accepted

pub case-misfiled-reported : {before after : List ℕ} → Reported 24 cores rounds filed before after →
    (word after 0 ≡ 6) × (word after 4 ≡ 6) × (row_at 4 after 2 ≡ 0 ∷ 2 ∷ 0 ∷ 0 ∷ [])
case-misfiled-reported = reported-two

-- "and no timestamp is active in two segments": that is needed. Of one written segment twice both hold, and the job's verdict names core row 4,
-- which repeats the timestamp of row 0
pub case-shared :
    (verdict_on 24 (one_core witness ++ one_core witness) (one_round witness ++ one_round witness) right 0 ≡ Holds 1)
    × (verdict_on 24 (one_core witness ++ one_core witness) (one_round witness ++ one_round witness) right 1 ≡ Holds 1)
    × (verdict_at 24 (one_core witness ++ one_core witness) (one_round witness ++ one_round witness) ≡ Repeated 4)
case-shared = (twice-hold 0 (omega arith), twice-hold 1 (omega arith), twice-named)
