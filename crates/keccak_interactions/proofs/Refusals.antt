-- `bus_interactions` is accepted exactly where none of its conditions holds, 8 before the others.
use mathlib.Core.Path.{◌≡◌, ◌∙◌}
use mathlib.Core.Logic.{◌↔◌}
use mathlib.Core.List.{List}
use mathlib.Core.Option.{some}
use Prim.Native.Nat.{ℕ, ◌≤◌, ◌<◌}
use Rattle.answer.specs.Limits.{MAX-ROUNDS}
use Rattle.answer.specs.Refusal.{accepted}
use Rattle.answer.specs.declared.Refusal.TheVariants.{Rounds}
use Rattle.answer.proofs.Refusals.{rounds-passed, rounds-later, many-rounds-refused, no-rounds-refused}
use Rattle.tuple.specs.Values.{Accepted, values_refusal}
use Rattle.tuple.proofs.Values.{accepted-is}
use Rattle.keccak.specs.Columns.{NUM-COLUMNS}
use Rattle.keccak_interactions.specs.Words.{NUM-WORDS, core_tuples_refusal}

module _ (nr : ℕ) (row : List ℕ) (room : ℕ) where
  -- with 1 to 24 rounds the checks are those of any call for a row's values (tuple/proofs/Values.antt: each of them)
  pub tuples-later : 1 ≤ nr → nr ≤ MAX-ROUNDS → core_tuples_refusal nr row room ≡ values_refusal NUM-COLUMNS NUM-WORDS row room
  unfolding core_tuples_refusal
  tuples-later l h = rounds-later nr _ l h

  pub tuples-accepted : (core_tuples_refusal nr row room ≡ accepted) ↔ ((1 ≤ nr) × (nr ≤ MAX-ROUNDS) × Accepted NUM-COLUMNS NUM-WORDS row room)
  unfolding core_tuples_refusal
  tuples-accepted = (
    (λ e. let r = rounds-passed nr _ e in (r.0, r.1, (accepted-is _ _ _ _).0 r.2)),
    λ h. rounds-later nr _ h.0 h.1 ∙ (accepted-is _ _ _ _).1 h.2,
  )

  -- 8 comes first, whatever the row and the slice are
  pub tuples-rounds : MAX-ROUNDS < nr → core_tuples_refusal nr row room ≡ some (Rounds nr)
  unfolding core_tuples_refusal
  tuples-rounds h = many-rounds-refused nr _ h

pub tuples-no-rounds : (row : List ℕ) (room : ℕ) → core_tuples_refusal 0 row room ≡ some (Rounds 0)
unfolding core_tuples_refusal
tuples-no-rounds row room = no-rounds-refused _
