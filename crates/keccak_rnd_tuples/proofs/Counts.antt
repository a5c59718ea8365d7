-- How often a row's tuples count: 1,031 times in an active row (808 ByteAlu, 220 AreBytes, 1 KeccakRc and 1 Keccak sent, 1
-- Keccak received), and 220 times, all AreBytes, in a padding row.
use mathlib.Core.Path.{◌≡◌, ap, ap₂, ◌∙◌}
use mathlib.Core.List.{List}
use Prim.Native.Nat.{ℕ, ◌+◌, ◌*◌}
use native.Mathlib.Omega.{arith}
use Rattle.lists.specs.Tab.{word}
use Rattle.tuple.specs.Tuple.{bus_sum}
use Rattle.tuple.specs.declared.Bus.{Bus}
use Rattle.tuple.specs.declared.Bus.TheVariants.{ByteAlu, AreBytes, KeccakRc, Keccak}
use Rattle.tuple.specs.declared.Side.{Side}
use Rattle.tuple.specs.declared.Side.TheVariants.{Sender, Receiver}
use Rattle.keccak_rnd.specs.Columns.{MU}
use Rattle.keccak_rnd.specs.Tuples.{NUM-TUPLES, round_tuple}
use Rattle.keccak_rnd.proofs.Sums.{row-sum}

module _ (row : List ℕ) where
  -- the sum of the multiplicities on one side of a bus
  abbrev on : Side → Bus → ℕ
  on s b = bus_sum s b NUM-TUPLES (round_tuple row)

  abbrev all : ℕ
  all = on Sender ByteAlu + on Sender AreBytes + on Sender KeccakRc + on Sender Keccak + on Receiver Keccak

  all-is : all ≡ 808 * word row MU + 220 + word row MU + word row MU + word row MU
  all-is =
      ap₂ ◌+◌
      (ap₂ ◌+◌ (ap₂ ◌+◌ (ap₂ ◌+◌ (row-sum Sender ByteAlu row) (row-sum Sender AreBytes row)) (row-sum Sender KeccakRc row)) (row-sum Sender Keccak row))
      (row-sum Receiver Keccak row)
      ∙ omega arith

  pub active-row : word row MU ≡ 1 → all ≡ NUM-TUPLES
  active-row e = all-is ∙ ap (λ (m : ℕ). 808 * m + 220 + m + m + m) e

  pub padding-row : word row MU ≡ 0 → all ≡ 220
  padding-row e = all-is ∙ ap (λ (m : ℕ). 808 * m + 220 + m + m + m) e
