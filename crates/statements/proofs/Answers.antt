-- What a host reads of an answer, whose third word is 1 exactly where it is good: of words that are all 0, of a refusal and of a failure
-- nothing reads as good. And the call that permutes a state, by FIPS 202.
use Prim.Native.Nat.{ℕ, ◌≤◌}
use mathlib.Core.Path.{◌≡◌}
use mathlib.Core.Logic.{◌↔◌}
use mathlib.Core.List.{List, [], ◌∷◌}
use lib.ListN.{length}
use Rattle.fips202.specs.Fips.{Agree, keccak_p}
use Rattle.fips202.specs.Lanes.{Lanes, bits}
use Rattle.answer.specs.Limits.{MAX-ROUNDS}
use Rattle.answer.specs.Refusal.{accepted, refusal_number}
use Rattle.answer.specs.declared.Refusal.{Refusal}
use Rattle.verdict.specs.Verdict.{verdict_words}
use Rattle.verdict.specs.declared.Verdict.{Verdict}
use Rattle.verdict.specs.declared.Verdict.TheVariants as verdict
use Rattle.same_operations.specs.declared.Agreement.{Agreement}
use Rattle.same_operations.specs.declared.Agreement.TheVariants as agreement
use mathlib.Core.Bool.{Bool, true}
use Rattle.flat.specs.Flat.{flat_answer}
use Rattle.flat.specs.FlatJudged.{flat_verdict, flat_agreement, flat_reply}
use Rattle.flat.proofs.Told.{refusal-counts, answer-done, verdict-holds, verdict-kind, agreement-same, agreement-kind, reply-yes, failure-words}
use Rattle.keccak_f.specs.KeccakF.{LANES, state_refusal, state_after}
use Rattle.keccak_f.proofs.Permuted.{state-accepted, state-permuted}
use Rattle.std.specs.Prelude.{Result, Ok, ⊤, Err}

-- `refusal` is 0 exactly where a call is not refused: no refusal has the number 0
pub no-refusal-0 : (r : Refusal) → refusal_number r ≡ 0 → ⊥
no-refusal-0 = refusal-counts

pub done-exactly : (a : Result ⊤ Refusal) → ((flat_answer a).done ≡ 1) ↔ (a ≡ Ok tt)
done-exactly = answer-done

-- "The verdict is 'holds' with the active core count, or the first failure": `holds` is 1 exactly where it is, a kind is 0 exactly where
-- the verdict is refused, and the words of a failure are those of the report on a job
pub holds-exactly : (v : Verdict) → ((flat_verdict v).holds ≡ 1) ↔ ((n : ℕ) × (v ≡ verdict.Holds n))
holds-exactly = verdict-holds

pub kind-of-a-verdict : (v : Verdict) → ((flat_verdict v).kind ≡ 0) ↔ ((r : Refusal) × (v ≡ verdict.Refused r))
kind-of-a-verdict = verdict-kind

pub failure-as-reported : (v : Verdict) → (flat_verdict v).refusal ≡ 0 → (flat_verdict v).holds ≡ 0
    → (flat_verdict v).kind ∷ (flat_verdict v).table ∷ (flat_verdict v).row ∷ (flat_verdict v).index ∷ [] ≡ verdict_words v
failure-as-reported = failure-words

-- "Say 'same' exactly when the active core rows .. are the file's operations"
pub same-exactly : (a : Result Agreement Refusal) → ((flat_agreement a).same ≡ 1) ↔ (a ≡ Ok agreement.Same)
same-exactly = agreement-same

pub kind-of-an-agreement : (a : Result Agreement Refusal) → ((flat_agreement a).kind ≡ 0) ↔ ((r : Refusal) × (a ≡ Err r))
kind-of-an-agreement = agreement-kind

-- "yes exactly when it is that list for its own first address and timestamp"
pub yes-exactly : (a : Result Bool Refusal) → ((flat_reply a).yes ≡ 1) ↔ (a ≡ Ok true)
yes-exactly = reply-yes

-- "Keccak-p[1600, nr] of FIPS 202": accepted exactly with 1 to 24 rounds and 25 words, and then the lanes are permuted, bit by bit
pub permutes-exactly : (nr room : ℕ) → (state_refusal nr room ≡ accepted) ↔ ((1 ≤ nr) × (nr ≤ MAX-ROUNDS) × (LANES ≤ room))
permutes-exactly = state-accepted

pub permutes : (nr : ℕ) (s : List ℕ) → state_refusal nr (length s) ≡ accepted → Lanes s → Agree (bits (state_after nr s)) (keccak_p nr (bits s))
permutes = state-permuted
