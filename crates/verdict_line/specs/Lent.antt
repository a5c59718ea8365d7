-- What an answer of `verdict_within` says, with no check in it (proofs/Lent.antt: `lent_Says`): 3 stands between 2 and 5.
--     Ready        neither 8 nor 2 is met
--     Short        one of the slices, of `scratch` and of `spare` words, has fewer than 2 words a row of both tables
--     SaysLent     3 with the words that are needed where the tables are ready and a slice is short, else as `verdict`
use Rattle.std.specs.Prelude.{◌≡◌, ◌⊎◌, List, ℕ, ◌≤◌, ◌<◌}
use Rattle.answer.specs.Limits.{MAX-ROUNDS}
use Rattle.answer.specs.declared.Refusal.TheVariants.{TooShort}
use Rattle.verdict.specs.Kind.{Whole}
use Rattle.verdict.specs.CoreAndRound.{core_layout, round_layout}
use Rattle.verdict.specs.Failures.{SaysFor}
use Rattle.verdict.specs.declared.Verdict.{Verdict}
use Rattle.verdict.specs.declared.Verdict.TheVariants.{Refused}
use Rattle.sort_places.specs.Places.{place_count}

abbrev pub Ready : ℕ → List ℕ → List ℕ → Type 0
Ready nr core round = (1 ≤ nr) × (nr ≤ MAX-ROUNDS) × Whole core_layout core × Whole round_layout round

abbrev pub Short : List ℕ → List ℕ → ℕ → ℕ → Type 0
Short core round scratch spare = (scratch < place_count core round) ⊎ (spare < place_count core round)

abbrev pub SaysLent : ℕ → List ℕ → List ℕ → ℕ → ℕ → Verdict → Type 0
SaysLent nr core round scratch spare v =
    (Ready nr core round × Short core round scratch spare × (v ≡ Refused (TooShort (place_count core round))))
    ⊎ ((Ready nr core round → Short core round scratch spare → ⊥) × SaysFor nr core round v)
