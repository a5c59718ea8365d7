-- The rounds at which a core row sends and receives; and `bus_interaction` is accepted exactly where none of its
-- conditions holds, 8 before the others.
use mathlib.Core.Path.{◌≡◌, refl, ◌∙◌}
use mathlib.Core.Logic.{◌↔◌}
use mathlib.Core.List.{List}
use mathlib.Core.Option.{some}
use Prim.Native.Nat.{ℕ, ◌-◌, ◌≤◌, ◌<◌}
use lib.ListN.{length, get_or}
use Rattle.answer.specs.Limits.{MAX-ROUNDS}
use Rattle.answer.specs.Refusal.{accepted}
use Rattle.answer.specs.declared.Refusal.TheVariants.{Rounds}
use Rattle.answer.proofs.Refusals.{rounds-passed, rounds-later, many-rounds-refused, no-rounds-refused}
use Rattle.tuple.specs.Call.{Accepted, tuple_refusal}
use Rattle.tuple.proofs.Refusals.{accepted-is}
use Rattle.keccak.specs.Columns.{NUM-COLUMNS}
use Rattle.keccak.specs.Tuples.{NUM-TUPLES, keccak_values, core_sent, core_received, core_tuple}
use Rattle.keccak.specs.TupleCalls.{core_tuple_refusal}

-- "the core row sends at round 24 − nr and receives at 24": the third word of a Keccak tuple
module _ (row : List ℕ) where
  pub sent-round : (nr : ℕ) → get_or (core_sent nr row) 2 0 ≡ 24 - nr
  unfolding core_sent keccak_values
  sent-round nr = refl

  pub received-round : get_or (core_received row) 2 0 ≡ 24
  unfolding core_received keccak_values
  received-round = refl

module _ (nr syscall : ℕ) (row : List ℕ) (i : ℕ) (out : List ℕ) where
  -- with 1 to 24 rounds the checks are those of any call for a tuple (tuple/proofs/Refusals.antt: each of them)
  pub tuple-later : 1 ≤ nr → nr ≤ MAX-ROUNDS
      → core_tuple_refusal nr syscall row i out ≡ tuple_refusal NUM-COLUMNS NUM-TUPLES (core_tuple nr syscall) row i out
  unfolding core_tuple_refusal
  tuple-later l h = rounds-later nr _ l h

  pub tuple-accepted :
      (core_tuple_refusal nr syscall row i out ≡ accepted)
      ↔ ((1 ≤ nr) × (nr ≤ MAX-ROUNDS) × Accepted NUM-COLUMNS NUM-TUPLES row i (length (core_tuple nr syscall row i).values) (length out))
  unfolding core_tuple_refusal tuple_refusal
  tuple-accepted = (
    (λ e. let r = rounds-passed nr _ e in (r.0, r.1, (accepted-is _ _ _ _ _ _).0 r.2)),
    λ h. rounds-later nr _ h.0 h.1 ∙ (accepted-is _ _ _ _ _ _).1 h.2,
  )

  -- 8 comes first, whatever the row, the index and the slice are
  pub tuple-rounds : MAX-ROUNDS < nr → core_tuple_refusal nr syscall row i out ≡ some (Rounds nr)
  unfolding core_tuple_refusal
  tuple-rounds h = many-rounds-refused nr _ h

pub tuple-no-rounds : (syscall : ℕ) (row : List ℕ) (i : ℕ) (out : List ℕ) → core_tuple_refusal 0 syscall row i out ≡ some (Rounds 0)
unfolding core_tuple_refusal
tuple-no-rounds syscall row i out = no-rounds-refused _
