-- The verdict in lent memory.
--     within_refusal    the refusals, "8, 2, 3, 5" in this order
--     within_for        what the call answers: a refusal, or the verdict
--     within_after      what a lent slice holds afterwards: zeros in the words that are used
-- Where both slices have room it is the verdict of `verdict` (proofs/Within.antt: `Within-same`).
use Rattle.std.specs.Prelude.{List, ℕ}
use Rattle.std.proofs.Math.Option.{Option}
use Rattle.lists.specs.Tab.{tab}
use Rattle.answer.specs.Refusal.{accepted, not_rounds, too_short, overwrite, afterwards}
use Rattle.answer.specs.declared.Refusal.{Refusal}
use Rattle.verdict.specs.Verdict.{stage}
use Rattle.verdict.specs.CoreAndRound.{verdict_at}
use Rattle.verdict.specs.declared.Verdict.{Verdict}
use Rattle.verdict.specs.declared.Verdict.TheVariants.{Refused}
use Rattle.judge.specs.Checks.{not_rows, not_words}
use Rattle.sort_places.specs.Places.{place_count}

-- Two words a row in each of two slices, of `scratch` and of `spare` words: a place for each tuple on the Keccak bus.
unfoldable pub within_refusal : ℕ → List ℕ → List ℕ → ℕ → ℕ → Option Refusal
within_refusal nr core round scratch spare =
    not_rounds nr
    (not_rows core round
    (too_short scratch (place_count core round)
    (too_short spare (place_count core round)
    (not_words core round accepted))))

unfoldable pub within_for : ℕ → List ℕ → List ℕ → ℕ → ℕ → Verdict
within_for nr core round scratch spare = stage (within_refusal nr core round scratch spare) Refused (verdict_at nr core round)

unfoldable pub within_after : ℕ → List ℕ → List ℕ → ℕ → ℕ → List ℕ → List ℕ
within_after nr core round scratch spare old =
    afterwards (within_refusal nr core round scratch spare) (overwrite (tab (place_count core round) (λ k. 0)) old) old
