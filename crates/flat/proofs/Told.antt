-- What a caller by C linkage reads of an answer.
--     refusal-counts    the number of a refusal is never 0, so `refusal` is 0 exactly where the call was not refused
--     answer-done, number-done, tuple-done, lookup-done, tally-done   `done` is 1 exactly where the call did its work
--     cursor-reading    `reading` is 1 exactly where a reader has met no fault
--     zeros-refused     a reader of zeros is refused
--     verdict-holds     `holds` is 1 exactly where the tables hold
--     agreement-same    `same` is 1 exactly where file and table are the same
--     reply-yes         `yes` is 1 exactly where the list is the message's
--     verdict-kind, agreement-kind   a kind is 0 exactly where the answer is refused
--     failure-words     a failure's kind, table, row and index are the words of `verdict_words`
-- So of words that are all 0, of a refusal and of a failure nothing reads as good.
use Prim.Native.Nat.{ℕ}
use mathlib.Core.Path.{◌≡◌, refl, ap}
use mathlib.Core.Bool.{Bool, true, false}
use mathlib.Core.Logic.{◌↔◌}
use mathlib.Core.List.{[], ◌∷◌}
use native.Mathlib.Omega.{arith}
use Rattle.answer.specs.Refusal.{refusal_number}
use Rattle.answer.specs.declared.Refusal.{Refusal}
use Rattle.answer.specs.declared.Refusal.TheVariants.{PastEnd, NotWhole, TooShort, HighAddress, NotElement, BadRecord, Unaligned, Rounds, Floor, Register, Segment, LongMessage, LateTimestamp, Files}
use Rattle.tuple.specs.declared.BusInteraction.{BusInteraction}
use Rattle.bitwise_operations.specs.declared.BitwiseOperation.{BitwiseOperation}
use Rattle.op_file.specs.declared.Sums.{Sums}
use Rattle.op_file.specs.declared.Reading.{Reading}
use Rattle.verdict.specs.Verdict.{verdict_words}
use Rattle.verdict.specs.declared.Table.TheVariants.{Core, Round}
use Rattle.verdict.specs.declared.Verdict.{Verdict}
use Rattle.verdict.specs.declared.Verdict.TheVariants as verdict
use Rattle.same_operations.specs.declared.Agreement.{Agreement}
use Rattle.same_operations.specs.declared.Agreement.TheVariants as agreement
use Rattle.flat.specs.declared.FlatCursor.{FlatCursor}
use Rattle.flat.specs.Flat.{flat_answer, flat_number, flat_tuple}
use Rattle.flat.specs.FlatLookup.{flat_lookup}
use Rattle.flat.specs.FlatReader.{refusal_of, cursor_of, flat_cursor, flat_tally}
use Rattle.flat.specs.FlatJudged.{failure, failed_in, flat_verdict, flat_agreement, flat_reply}
use Rattle.std.specs.Prelude.{Result, Ok, Err, ⊤}

pub refusal-counts : (r : Refusal) → refusal_number r ≡ 0 → ⊥
refusal-counts (PastEnd d) e = omega (arith, e)
refusal-counts (NotWhole d) e = omega (arith, e)
refusal-counts (TooShort d) e = omega (arith, e)
refusal-counts (HighAddress d) e = omega (arith, e)
refusal-counts (NotElement d) e = omega (arith, e)
refusal-counts (BadRecord d) e = omega (arith, e)
refusal-counts (Unaligned d) e = omega (arith, e)
refusal-counts (Rounds d) e = omega (arith, e)
refusal-counts (Floor d) e = omega (arith, e)
refusal-counts (Register d) e = omega (arith, e)
refusal-counts (Segment d) e = omega (arith, e)
refusal-counts (LongMessage d) e = omega (arith, e)
refusal-counts (LateTimestamp d) e = omega (arith, e)
refusal-counts (Files d) e = omega (arith, e)

not-one : {A : Type 0} → ◌≡◌ {A = ℕ} 0 1 → A
not-one e = absurd (omega (arith, e))

pub answer-done : (a : Result ⊤ Refusal) → ((flat_answer a).done ≡ 1) ↔ (a ≡ Ok tt)
unfolding flat_answer
answer-done (Ok tt) = (λ e. refl, λ e. refl)
answer-done (Err r) = (λ e. not-one e, λ e. ap (λ (b : Result ⊤ Refusal). (flat_answer b).done) e)

pub number-done : (a : Result ℕ Refusal) → ((flat_number a).done ≡ 1) ↔ ((n : ℕ) × (a ≡ Ok n))
unfolding flat_number
number-done (Ok n) = (λ e. (n, refl), λ e. refl)
number-done (Err r) = (λ e. not-one e, λ e. ap (λ (b : Result ℕ Refusal). (flat_number b).done) e.1)

pub tuple-done : (a : Result BusInteraction Refusal) → ((flat_tuple a).done ≡ 1) ↔ ((t : BusInteraction) × (a ≡ Ok t))
unfolding flat_tuple
tuple-done (Ok t) = (λ e. (t, refl), λ e. refl)
tuple-done (Err r) = (λ e. not-one e, λ e. ap (λ (b : Result BusInteraction Refusal). (flat_tuple b).done) e.1)

pub lookup-done : (a : Result BitwiseOperation Refusal) → ((flat_lookup a).done ≡ 1) ↔ ((op : BitwiseOperation) × (a ≡ Ok op))
unfolding flat_lookup
lookup-done (Ok op) = (λ e. (op, refl), λ e. refl)
lookup-done (Err r) = (λ e. not-one e, λ e. ap (λ (b : Result BitwiseOperation Refusal). (flat_lookup b).done) e.1)

pub tally-done : (a : Result Sums Refusal) → ((flat_tally a).done ≡ 1) ↔ ((s : Sums) × (a ≡ Ok s))
unfolding flat_tally
tally-done (Ok s) = (λ e. (s, refl), λ e. refl)
tally-done (Err r) = (λ e. not-one e, λ e. ap (λ (b : Result Sums Refusal). (flat_tally b).done) e.1)

pub cursor-reading : (c : Result Reading Refusal) → ((flat_cursor c).reading ≡ 1) ↔ ((p : Reading) × (c ≡ Ok p))
unfolding flat_cursor
cursor-reading (Ok p) = (λ e. (p, refl), λ e. refl)
cursor-reading (Err r) = (λ e. not-one e, λ e. ap (λ (d : Result Reading Refusal). (flat_cursor d).reading) e.1)

pub zeros-refused : (c : FlatCursor) → c.reading ≡ 0 → c.refusal ≡ 0 → cursor_of c ≡ Err (BadRecord c.detail)
unfolding cursor_of refusal_of
zeros-refused c e q = rw (e, q)

-- ---- what is judged

holding : (v : Verdict) → (flat_verdict v).holds ≡ 1 → (n : ℕ) × (v ≡ verdict.Holds n)
unfolding flat_verdict failed_in failure
holding (verdict.Holds n) e = (n, refl)
holding (verdict.Value Core r i) e = not-one e
holding (verdict.Value Round r i) e = not-one e
holding (verdict.Lookup Core r i) e = not-one e
holding (verdict.Lookup Round r i) e = not-one e
holding (verdict.Repeated r) e = not-one e
holding (verdict.Unbalanced Core r i) e = not-one e
holding (verdict.Unbalanced Round r i) e = not-one e
holding (verdict.Refused r) e = not-one e

pub verdict-holds : (v : Verdict) → ((flat_verdict v).holds ≡ 1) ↔ ((n : ℕ) × (v ≡ verdict.Holds n))
unfolding flat_verdict
verdict-holds v = (holding v, λ e. ap (λ (w : Verdict). (flat_verdict w).holds) e.1)

-- where the tables hold, `active` is their count
pub verdict-count : (n : ℕ) → (flat_verdict (verdict.Holds n)).active ≡ n
unfolding flat_verdict
verdict-count n = refl

pub agreement-same : (a : Result Agreement Refusal) → ((flat_agreement a).same ≡ 1) ↔ (a ≡ Ok agreement.Same)
unfolding flat_agreement
agreement-same (Ok agreement.Same) = (λ e. refl, λ e. refl)
agreement-same (Ok (agreement.Record i)) = (λ e. not-one e, λ e. ap (λ (b : Result Agreement Refusal). (flat_agreement b).same) e)
agreement-same (Ok (agreement.Row r)) = (λ e. not-one e, λ e. ap (λ (b : Result Agreement Refusal). (flat_agreement b).same) e)
agreement-same (Err r) = (λ e. not-one e, λ e. ap (λ (b : Result Agreement Refusal). (flat_agreement b).same) e)

pub reply-yes : (a : Result Bool Refusal) → ((flat_reply a).yes ≡ 1) ↔ (a ≡ Ok true)
unfolding flat_reply
reply-yes (Ok true) = (λ e. refl, λ e. refl)
reply-yes (Ok false) = (λ e. not-one e, λ e. ap (λ (b : Result Bool Refusal). (flat_reply b).yes) e)
reply-yes (Err r) = (λ e. not-one e, λ e. ap (λ (b : Result Bool Refusal). (flat_reply b).yes) e)

-- ---- kinds

no_kind : (v : Verdict) → (flat_verdict v).kind ≡ 0 → (r : Refusal) × (v ≡ verdict.Refused r)
unfolding flat_verdict failed_in failure
no_kind (verdict.Holds n) e = absurd (omega (arith, e))
no_kind (verdict.Value Core r i) e = absurd (omega (arith, e))
no_kind (verdict.Value Round r i) e = absurd (omega (arith, e))
no_kind (verdict.Lookup Core r i) e = absurd (omega (arith, e))
no_kind (verdict.Lookup Round r i) e = absurd (omega (arith, e))
no_kind (verdict.Repeated r) e = absurd (omega (arith, e))
no_kind (verdict.Unbalanced Core r i) e = absurd (omega (arith, e))
no_kind (verdict.Unbalanced Round r i) e = absurd (omega (arith, e))
no_kind (verdict.Refused r) e = (r, refl)

pub verdict-kind : (v : Verdict) → ((flat_verdict v).kind ≡ 0) ↔ ((r : Refusal) × (v ≡ verdict.Refused r))
unfolding flat_verdict
verdict-kind v = (no_kind v, λ e. ap (λ (w : Verdict). (flat_verdict w).kind) e.1)

pub agreement-kind : (a : Result Agreement Refusal) → ((flat_agreement a).kind ≡ 0) ↔ ((r : Refusal) × (a ≡ Err r))
unfolding flat_agreement
agreement-kind (Ok agreement.Same) = (λ e. absurd (omega (arith, e)), λ e. ap (λ (b : Result Agreement Refusal). (flat_agreement b).kind) e.1)
agreement-kind (Ok (agreement.Record i)) = (λ e. absurd (omega (arith, e)), λ e. ap (λ (b : Result Agreement Refusal). (flat_agreement b).kind) e.1)
agreement-kind (Ok (agreement.Row r)) = (λ e. absurd (omega (arith, e)), λ e. ap (λ (b : Result Agreement Refusal). (flat_agreement b).kind) e.1)
agreement-kind (Err r) = (λ e. (r, refl), λ e. refl)

-- of a verdict that is neither refused nor `holds`
pub failure-words : (v : Verdict) → (flat_verdict v).refusal ≡ 0 → (flat_verdict v).holds ≡ 0
    → (flat_verdict v).kind ∷ (flat_verdict v).table ∷ (flat_verdict v).row ∷ (flat_verdict v).index ∷ [] ≡ verdict_words v
unfolding flat_verdict failed_in failure
failure-words (verdict.Holds n) q e = absurd (omega (arith, e))
failure-words (verdict.Value Core r i) q e = refl
failure-words (verdict.Value Round r i) q e = refl
failure-words (verdict.Lookup Core r i) q e = refl
failure-words (verdict.Lookup Round r i) q e = refl
failure-words (verdict.Repeated r) q e = refl
failure-words (verdict.Unbalanced Core r i) q e = refl
failure-words (verdict.Unbalanced Round r i) q e = refl
failure-words (verdict.Refused r) q e = absurd (refusal-counts r q)
