-- Segments, then the job: "The line judges each segment's two tables, then the job, which is all core rows and all round rows one after the
-- other."
--     segment_count, row_count    how many segments a list of counts has, and the counts of segment i
--     job_segment, segments       segment i, and all of them in order
--     adds_up, splits, Split     whether a list of counts splits two tables, as a test and as a statement
--     verdict_on, job_verdict     the verdict on segment i, and on the job
--     report_words               the report
--     not_job                    the checks before those of the tables' words, which the call in lent memory shares (Within.antt)
--     job_refusal, job_after      what the call refuses, and what it leaves in the lent words
--     Checked, AcceptableJob       two tables that are not refused, and a call that is not
--     SegmentsHold, Apart       what is supposed of the segments of a job that holds
-- `Segment` and what the job of a list of segments is: verdict/specs/Job.antt.
use Rattle.std.specs.Prelude.{◌≡◌, Bool, not, ◌&&◌, List, ◌++◌, ℕ, ◌+◌, ◌*◌, ◌/◌, ◌%◌, ◌≤◌, ◌<◌, eqb, length, take, drop}
use Rattle.std.proofs.Math.Option.{Option}
use Rattle.lists.specs.Tab.{word, tab, table_of}
use Rattle.lists.specs.Sum.{sum_below}
use Rattle.answer.specs.Limits.{MAX-ROUNDS}
use Rattle.answer.specs.Refusal.{refuse_if, accepted, too_short, not_rounds, overwrite, afterwards}
use Rattle.answer.specs.declared.Refusal.{Refusal}
use Rattle.answer.specs.declared.Refusal.TheVariants.{NotWhole}
use Rattle.verdict.specs.Kind.{Layout, rows, Whole, Elements}
use Rattle.verdict.specs.Verdict.{verdict_words}
use Rattle.verdict.specs.CoreAndRound.{core_layout, round_layout, verdict_at}
use Rattle.verdict.specs.Job.{Segment, Separate}
use Rattle.verdict.specs.declared.Verdict.{Verdict}
use Rattle.verdict.specs.declared.Verdict.TheVariants.{Holds}
use Rattle.judge.specs.Checks.{not_rows, not_words}

-- ---- the segments: "A job is lent as one core table, one round table and a list of each segment's two row counts"
-- two counts a segment, its core rows and its round rows
abbrev pub COUNT-WORDS : ℕ
COUNT-WORDS = 2

abbrev pub segment_count : List ℕ → ℕ
segment_count counts = length counts / COUNT-WORDS

-- count k of segment i: 0 its core rows, 1 its round rows
unfoldable pub row_count : List ℕ → ℕ → ℕ → ℕ
row_count counts k i = word counts (i * COUNT-WORDS + k)

abbrev pub core_rows : List ℕ → ℕ → ℕ
core_rows counts = row_count counts 0

abbrev pub round_rows : List ℕ → ℕ → ℕ
round_rows counts = row_count counts 1

-- n rows of a table, from row a on
unfoldable pub rows_from : Layout → List ℕ → ℕ → ℕ → List ℕ
rows_from A ws a n = take (n * A.width) (drop (a * A.width) ws)

-- the part of a table that is segment i, whose rows stand behind those of the segments before it
abbrev pub part_at : Layout → List ℕ → (ℕ → ℕ) → ℕ → List ℕ
part_at A ws count i = rows_from A ws (sum_below i count) (count i)

abbrev pub job_segment : List ℕ → List ℕ → List ℕ → ℕ → Segment
job_segment core round counts i =
    record {
      core-table = part_at core_layout core (core_rows counts) i;
      round-table = part_at round_layout round (round_rows counts) i;
    }

-- all of them, in order
abbrev pub segments : List ℕ → List ℕ → List ℕ → List Segment
segments core round counts = tab (segment_count counts) (job_segment core round counts)

-- the counts k of all segments add up to so many rows, as whole numbers
unfoldable pub adds_up : List ℕ → ℕ → ℕ → Bool
adds_up counts k rows = eqb (sum_below (segment_count counts) (row_count counts k)) rows

-- "a list not of pairs, or whose whole sums are not the tables' rows" does not split them
unfoldable pub splits : List ℕ → List ℕ → List ℕ → Bool
splits core round counts =
    eqb (length counts % COUNT-WORDS) 0 && (adds_up counts 0 (rows core_layout core) && adds_up counts 1 (rows round_layout round))

-- the same as a statement (proofs/Refusals.antt: `split-decides`)
pub record Split (core round counts : List ℕ) : Type 0 where
  pub pairs : length counts % COUNT-WORDS ≡ 0
  pub core-sum : sum_below (segment_count counts) (core_rows counts) ≡ rows core_layout core
  pub round-sum : sum_below (segment_count counts) (round_rows counts) ≡ rows round_layout round

-- ---- the report: "the report gives the segment verdicts in order and then the job's, four lent words each: 0, count, 0, 0, or the
-- failure's place (1 to 6) in the verdict's order, table (0 core, 1 round), row and index in what was judged"
abbrev pub VERDICT-WORDS : ℕ
VERDICT-WORDS = 4

-- the verdict on segment i: on its two tables alone, so that rows and indexes are those of the segment
unfoldable pub verdict_on : ℕ → List ℕ → List ℕ → List ℕ → ℕ → Verdict
verdict_on nr core round counts i =
    verdict_at nr (job_segment core round counts i).core-table (job_segment core round counts i).round-table

-- and on the job: on all core rows and all round rows
unfoldable pub job_verdict : ℕ → List ℕ → List ℕ → Verdict
job_verdict nr core round = verdict_at nr core round

unfoldable pub report_words : ℕ → List ℕ → List ℕ → List ℕ → List ℕ
report_words nr core round counts =
    table_of (segment_count counts) VERDICT-WORDS (λ i. verdict_words (verdict_on nr core round counts i))
    ++ verdict_words (job_verdict nr core round)

-- ---- the call
-- 8; 2 on core, round, counts, "refused by 2 with detail 2"; 3 on the report
unfoldable pub not_job : ℕ → List ℕ → List ℕ → List ℕ → ℕ → Option Refusal → Option Refusal
not_job nr core round counts room later =
    not_rounds nr
    (not_rows core round
    (refuse_if (not (splits core round counts)) (NotWhole 2)
    (too_short room ((segment_count counts + 1) * VERDICT-WORDS)
    later)))

-- then 5 on core and round
unfoldable pub job_refusal : ℕ → List ℕ → List ℕ → List ℕ → ℕ → Option Refusal
job_refusal nr core round counts room = not_job nr core round counts room (not_words core round accepted)

abbrev pub job_after : ℕ → List ℕ → List ℕ → List ℕ → List ℕ → List ℕ
job_after nr core round counts report =
    afterwards (job_refusal nr core round counts (length report)) (overwrite (report_words nr core round counts) report) report

-- two tables that are not refused: whole rows of words below p
pub record Checked (core round : List ℕ) : Type 0 where
  pub core-whole : Whole core_layout core
  pub round_whole : Whole round_layout round
  pub core-below : Elements core
  pub round-below : Elements round

-- none of the conditions is met (proofs/Refusals.antt: `job-accepted`, the checks pass exactly then)
pub record AcceptableJob (nr : ℕ) (core round counts : List ℕ) (room : ℕ) : Type 0 where
  pub some : 1 ≤ nr
  pub most : nr ≤ MAX-ROUNDS
  pub tables : Checked core round
  pub split : Split core round counts
  pub long : (segment_count counts + 1) * VERDICT-WORDS ≤ room

-- ---- what is supposed of segments
-- "every segment holds with the same nr", segment i with m i active core rows
abbrev pub SegmentsHold : ℕ → List ℕ → List ℕ → List ℕ → (ℕ → ℕ) → Type 0
SegmentsHold nr core round counts m =
    (i : ℕ) → i < segment_count counts → verdict_on nr core round counts i ≡ Holds (m i)

-- "no timestamp is active in two segments"
abbrev pub Apart : List ℕ → List ℕ → List ℕ → Type 0
Apart core round counts =
    (i j : ℕ) → i < j → j < segment_count counts →
    Separate core_layout (job_segment core round counts i).core-table (job_segment core round counts j).core-table
