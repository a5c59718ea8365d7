-- A verdict that is no refusal is that for a number of rounds from 1 to 24.
use Prim.Native.Nat.{ℕ, ◌≤◌}
use mathlib.Core.Path.{◌≡◌, subst}
use mathlib.Core.Logic.{inl, inr}
use mathlib.Core.List.{List}
use Rattle.answer.specs.Limits.{MAX-ROUNDS}
use Rattle.verdict.specs.CoreAndRound.{core_kind, round_kind, verdict_for}
use Rattle.verdict.specs.Failures.{Says}
use Rattle.verdict.specs.declared.Verdict.{Verdict}
use Rattle.verdict.proofs.AnyRounds.{any-rounds}
use Rattle.verdict_line.specs.Line.{Judged}

module _ (nr : ℕ) (core round : List ℕ) (v : Verdict) (judged : Judged v) (is : verdict_for nr core round ≡ v) where
  in-range : (1 ≤ nr) × (nr ≤ MAX-ROUNDS) × Says (core_kind nr) round_kind core round v
  in-range = elim ((any-rounds nr core round v).0 is) [
    | inl h ↦ absurd (subst Judged h.1 judged)
    | inr h ↦ h
  ]

  pub judged-range : (1 ≤ nr) × (nr ≤ MAX-ROUNDS)
  judged-range = (in-range.0, in-range.1)

  -- what it says of the tables
  pub judged-says : Says (core_kind nr) round_kind core round v
  judged-says = in-range.2
