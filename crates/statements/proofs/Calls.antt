-- Statements of the page on the calls that the bindings use, `verdict_within`, `job_within` and `charge`: of what they answer and leave, known by their
-- contracts alone. Statements.antt says the same of `verdict`, `job` and `generate_keccak_rnd_trace`.
--     AnsweredWithin   a call of `verdict_within`, its answer, and both lent slices when it begins and when it ends (judge_within/proofs/Tied.antt)
--     CalledWithin     a call of `job_within` likewise, with the report (job/proofs/TiedWithin.antt)
--     Charged          a call of `charge`, its answer, and the counters when it begins and when it ends (segment_counts/proofs/Tied.antt)
--     Wrote            a call of `generate_keccak_rnd_trace` (judge/proofs/Tied.antt)
use mathlib.Core.Path.{◌≡◌, refl, sym, ap, subst, ◌∙◌}
use mathlib.Core.Bool.{Bool, true}
use mathlib.Core.Logic.{◌↔◌}
use mathlib.Core.Option.{some}
use mathlib.Core.List.{List, []}
use Prim.Native.Nat.{ℕ, ◌+◌, ◌*◌, ◌%◌, ◌^◌, ◌≤◌, ◌<◌}
use lib.ListN.{length, take}
use Rattle.lists.specs.Tab.{word}
use Rattle.field.specs.Field.{p}
use Rattle.answer.specs.Refusal.{answer_of, accepted, PowerFloor}
use Rattle.answer.specs.declared.Refusal.{Refusal}
use Rattle.tuple.specs.declared.Bus.{Bus}
use Rattle.tuple.specs.declared.Side.TheVariants.{Sender}
use Rattle.bitwise.specs.Columns.{NUM-COUNTERS}
use Rattle.bitwise.specs.Charge.{found, place_counter}
use Rattle.bitwise.specs.Table.{fill_refusal, fill_after}
use Rattle.bitwise.proofs.Charge.{place-lt, found-counted}
use Rattle.keccak_rc.specs.Table as constants
use Rattle.keccak.specs.Height.{height}
use Rattle.keccak.specs.Row.{op_at, core_table}
use Rattle.keccak.specs.Refusals.{op_count, core_trace_refusal}
use Rattle.keccak.specs.Calls.{core_trace_after}
use Rattle.keccak_rnd.specs.Row.{round_table, round_height}
use Rattle.keccak_rnd.specs.Refusals.{round_trace_refusal}
use Rattle.keccak_rnd.specs.Calls.{round_trace_after}
use Rattle.segment_counts.specs.Segment.{charge_refusal, charge_after}
use Rattle.segment_counts.proofs.Tied.{Charged, charge-told, charge-left, charge-kept, charge-done, charge-grown, charge-past}
use Rattle.segment_sums.proofs.Sent.{list-charged-sent}
use Rattle.verdict.specs.Kind.{rows, actives, DistinctTimestamps}
use Rattle.verdict.specs.CoreAndRound.{core_layout, round_layout, core_kind, round_kind}
use Rattle.verdict.specs.Claims.{SupposedAt, Answers, EachActive, Computed, Addressed, operations, our_rounds}
use Rattle.verdict.specs.Unique.{EquallyOften, Rearranged, Refilled}
use Rattle.verdict.specs.declared.Verdict.{Verdict}
use Rattle.verdict.specs.declared.Verdict.TheVariants.{Holds}
use Rattle.verdict.proofs.Unique.{some-order}
use Rattle.bus_sums.specs.Sums.{Fillings, table_share, Filled, SumsHold, nobody}
use Rattle.judge.proofs.Tied.{Answered, Wrote, answered-computed, answered-equally, answered-exactly, answered-refilled, holds-answered, written-answers}
use Rattle.sort_places.specs.Places.{place_count}
use Rattle.judge_within.specs.Within.{within_for, within_after}
use Rattle.judge_within.proofs.Tied as within
use Rattle.judge_within.proofs.Tied.{AnsweredWithin, within-answered, scratch-left, spare-left, as-answered}
use Rattle.job.specs.Within.{job_within_refusal, job_within_after, job_scratch_after}
use Rattle.job.proofs.TiedWithin.{CalledWithin, within-told, report-after, scratch-holds, spare-holds}
use Rattle.statements.proofs.Statements.{code-sums, code-sums-hold}
use Rattle.statements.proofs.Segments.{empty-segment-passes}
use Rattle.std.specs.Prelude.{Result, Ok, ⊤}

-- ---- `verdict_within`
module _ {nr : ℕ} {core round scratch scratch' spare spare' : List ℕ} {v : Verdict} (call : AnsweredWithin nr core round scratch scratch' spare spare' v) where
  -- every answer, refusals included, and both slices when it ends
  pub code-within : (v ≡ within_for nr core round (length scratch) (length spare))
      × (scratch' ≡ within_after nr core round (length scratch) (length spare) scratch)
      × (spare' ≡ within_after nr core round (length scratch) (length spare) spare)
  code-within = (within-answered call, scratch-left call, spare-left call)

  -- where both slices have room the answer is that of a call of `verdict`, and where it is 'holds' they have: so all that is said of the answer of
  -- `verdict` is said of this one
  pub code-within-answered : place_count core round ≤ length scratch → place_count core round ≤ length spare → Answered nr core round v
  code-within-answered = as-answered call

  pub code-within-room : (n : ℕ) → v ≡ Holds n → (place_count core round ≤ length scratch) × (place_count core round ≤ length spare)
  code-within-room = within.holds-room call

  -- with nothing supposed: where it answers 'holds', every active core row is computed by Keccak-p[1600, nr] at its addresses
  pub code-within-computed : (n : ℕ) → v ≡ Holds n → (1 ≤ nr) × (nr ≤ 24) × EachActive (λ x. Computed nr x × Addressed x) core
  code-within-computed n e = answered-computed (within.holds-answered call n e) n e

  module _ (room : place_count core round ≤ length scratch) (spare-room : place_count core round ≤ length spare) where
    -- "Exactly for such a round table the verdict on both tables is 'holds' with the number of active core rows"
    pub code-within-holds : 1 ≤ nr → nr ≤ 24 → SupposedAt nr core → (v ≡ Holds (actives core_layout core)) ↔ Answers nr core round
    code-within-holds one most supposed = holds-answered nr one most core supposed round v (as-answered call room spare-room)

    -- 'holds' exactly where there are fillings for which the sums agree, and timestamps differ; on tables of at most 2^35 rows each
    pub code-within-sums : 1 ≤ nr → nr ≤ 24 → rows core_layout core ≤ 2 ^ 35 → rows round_layout round ≤ 2 ^ 35 →
        (v ≡ Holds (actives core_layout core)) ↔ (Filled nr core round × DistinctTimestamps core_layout core)
    code-within-sums one most few-core few-round = code-sums nr one most core round few-core few-round v (as-answered call room spare-room)

    pub code-within-sums-hold : 1 ≤ nr → nr ≤ 24 → (w : Fillings) (others : Bus → List ℕ → ℕ) → SumsHold nr core round w others →
        DistinctTimestamps core_layout core → v ≡ Holds (actives core_layout core)
    code-within-sums-hold one most w others h apart = code-sums-hold nr one most core round w others h apart v (as-answered call room spare-room)

-- "the table our writer makes from the active core rows is one of them": on what `generate_keccak_rnd_trace` writes it answers 'holds'; and Item 11:
-- where it answers 'holds', the active rows of the round table are those that are written, in some order, and it answers so exactly for these rows
-- with any idle rows
module _ (nr : ℕ) (one : 1 ≤ nr) (most : nr ≤ 24) (core : List ℕ) (supposed : SupposedAt nr core) (floor : ℕ) (power : PowerFloor floor)
    (before after : List ℕ) (fits : length (our_rounds nr floor core) ≤ length before) (wrote : Wrote nr floor (operations core) before after) where
  abbrev written : List ℕ
  written = take (length (our_rounds nr floor core)) after

  pub code-within-written : {scratch scratch' spare spare' : List ℕ} {v : Verdict} → EachActive (Computed nr) core →
      AnsweredWithin nr core written scratch scratch' spare spare' v → place_count core written ≤ length scratch → place_count core written ≤ length spare →
      v ≡ Holds (actives core_layout core)
  code-within-written {v = v} right call room spare-room = (written-answers nr one most core supposed floor power right before after fits wrote v (as-answered call room spare-room)).1

  module _ {round scratch scratch' spare spare' : List ℕ} {v : Verdict} (call : AnsweredWithin nr core round scratch scratch' spare spare' v) where
    pub code-within-one-way : (n : ℕ) → v ≡ Holds n → EquallyOften round_layout round written × Rearranged round_layout round written
    code-within-one-way n e =
        let q = answered-equally nr one most core supposed floor power round v n (within.holds-answered call n e) e before after fits wrote in
        (q, (some-order round_layout round written).0 q)

    pub code-within-one-way-exactly : place_count core round ≤ length scratch → place_count core round ≤ length spare → EachActive (Computed nr) core →
        (v ≡ Holds (actives core_layout core)) ↔ Refilled written round
    code-within-one-way-exactly room spare-room right =
        answered-exactly nr one most core supposed floor power right round v (as-answered call room spare-room) before after fits wrote

-- with nothing supposed, of two calls with one core table, the second with room
pub code-within-one-way-of-any : {nr : ℕ} {core round other scratch scratch' spare spare' lent lent' more more' : List ℕ} {v w : Verdict} →
    AnsweredWithin nr core round scratch scratch' spare spare' v → AnsweredWithin nr core other lent lent' more more' w →
    place_count core other ≤ length lent → place_count core other ≤ length more → (n : ℕ) → v ≡ Holds n → (w ≡ Holds n) ↔ Refilled round other
code-within-one-way-of-any a b room more_Room n e = answered-refilled (within.holds-answered a n e) (as-answered b room more_Room) n e

-- ---- `job_within`: every answer, refusals included, and the three slices when it ends. Of a call that is not refused `job-within-reports` says that
-- its report is one of `job`, so all that is said of that report
pub code-job-within : {nr : ℕ} {core round counts before after scratch scratch' spare spare' : List ℕ} {answer : Result ⊤ Refusal} →
    CalledWithin nr core round counts before after scratch scratch' spare spare' answer →
    (answer ≡ answer_of (job_within_refusal nr core round counts (length before) (length scratch) (length spare)))
    × (after ≡ job_within_after nr core round counts (length scratch) (length spare) before)
    × (scratch' ≡ job_scratch_after nr core round counts (length before) (length scratch) (length spare) scratch)
    × (spare' ≡ job_scratch_after nr core round counts (length before) (length scratch) (length spare) spare)
code-job-within call = (within-told call, report-after call, scratch-holds call, spare-holds call)

-- ---- `charge`
module _ {nr floor : ℕ} {shipped : Bool} {ops before after : List ℕ} {answer : Result ⊤ Refusal} (call : Charged nr floor shipped ops before after answer) where
  -- every answer, refusals included, and the counters when it ends; after a refusal they hold their old words
  pub code-charge : (answer ≡ answer_of (charge_refusal nr floor ops before)) × (after ≡ charge_after nr floor shipped ops before)
  code-charge = (charge-told call, charge-left call)

  pub code-charge-kept : {r : Refusal} → charge_refusal nr floor ops before ≡ some r → after ≡ before
  code-charge-kept = charge-kept call

  module _ (done : answer ≡ Ok tt) where
    -- "all that its core and round rows send, padding rows included, each on the bitwise row of its operands": the counter of given values has
    -- grown, mod p, by how often both tables as they are written send them, of a list of words as they are lent ..
    pub code-charge-sent : ((k : ℕ) → word ops k < 2 ^ 64) → (op_count ops ≡ 0 → shipped ≡ true) → (b : Bus) (v : List ℕ) → found b v ≡ true →
        word after (place_counter b v)
        ≡ (word before (place_counter b v)
        + (table_share Sender b v (core_kind nr) (core_table floor (op_count ops) (op_at ops)) + table_share Sender b v round_kind (round_table nr floor (op_count ops) (op_at ops)))) % p
    code-charge-sent lent sends b v h =
        charge-grown call done (place_counter b v) (place-lt b v (found-counted b v h))
        ∙ ap (λ (n : ℕ). (word before (place_counter b v) + n) % p) (list-charged-sent nr floor ops before (charge-done call done) lent shipped sends b v h)

    -- .. and the words past the counters are untouched
    pub code-charge-past : (k : ℕ) → 10485760 ≤ k → word after k ≡ word before k
    code-charge-past = charge-past call done

-- of a call in shipped mode with an empty list, from zero: what it leaves is what the empty segment's sums want (`empty-segment-passes`)
pub code-charge-empty : (nr floor : ℕ) (T U : List ℕ) → core_trace_refusal floor (length T) [] ≡ accepted → round_trace_refusal nr floor (length U) [] ≡ accepted →
    (K : List ℕ) → constants.rc_trace_refusal K ≡ accepted → constants.update_refusal nr (constants.rc_trace_after K) 0 ≡ accepted →
    (Z after B : List ℕ) → ((c : ℕ) → c < NUM-COUNTERS → word Z c ≡ 0) → Charged nr floor true [] Z after (Ok tt) → fill_refusal after B ≡ accepted →
    SumsHold nr (take (height floor 0 * 486) (core_trace_after floor [] T)) (take (round_height nr floor 0 * 1480) (round_trace_after nr floor [] U))
    (record { bitwise = λ i k. word (fill_after after B) (i * 21 + (11 + k)); constants = λ r. 0; is-wh = [] }) nobody
code-charge-empty nr floor T U wrote-core wrote-round K wrote-constants set-constants Z after B zeros call fills =
    let e : after ≡ charge_after nr floor true [] Z = charge-left call in
    subst
    (λ (c : List ℕ). SumsHold nr (take (height floor 0 * 486) (core_trace_after floor [] T)) (take (round_height nr floor 0 * 1480) (round_trace_after nr floor [] U))
    (record { bitwise = λ i k. word (fill_after c B) (i * 21 + (11 + k)); constants = λ r. 0; is-wh = [] }) nobody)
    (sym e)
    (empty-segment-passes nr floor T U wrote-core wrote-round K wrote-constants set-constants Z B zeros (charge-done call refl) (subst (λ (c : List ℕ). fill_refusal c B ≡ accepted) e fills))
