-- The rows of the operations of a list, nr to an operation.
use mathlib.Core.List.{List}
use mathlib.Core.Path.{◌≡◌, refl, sym}
use Prim.Native.Nat.{ℕ, ◌+◌, ◌-◌, ◌*◌, ◌/◌, ◌%◌}
use Rattle.bits.specs.Bits.{word_at}
use Rattle.fips202.specs.Lanes.{rounds_l}
use Rattle.bitwise.specs.Charge.{charged_row, charged}
use Rattle.keccak.specs.Row.{op_at}
use Rattle.keccak.specs.declared.KeccakOperation.{KeccakOperation}
use Rattle.keccak_rnd.specs.Row.{round_row, op_row}
use Rattle.keccak_rnd.specs.Tuples.{round_tuple}
use Rattle.keccak_rnd_counts.specs.Lanes.{parts}
use Rattle.keccak_rnd_counts.proofs.Sums.{sum-blocks}

module _ (nr : ℕ) where
  -- what the rows of an operation add
  abbrev pub op_adds : KeccakOperation → ℕ → ℕ
  op_adds o = charged nr 1031 (λ j. round_tuple (op_row nr o j))

  pub op-adds : (o : KeccakOperation) (c : ℕ) → charged nr 1031 (λ j. round_tuple (round_row (word_at o.timestamp) (24 - nr + j) (rounds_l (24 - nr) j o.input))) c ≡ op_adds o c
  unfolding op_row
  op-adds o c = refl

  -- and what those of n operations add
  pub ops-add : (ops : List ℕ) (n c : ℕ) → parts n (λ i. op_adds (op_at ops i)) c ≡ charged (n * nr) 1031 (λ q. round_tuple (op_row nr (op_at ops (q / nr)) (q % nr))) c
  unfolding charged parts
  ops-add ops n c = sym (sum-blocks n nr (λ i j. charged_row 1031 (round_tuple (op_row nr (op_at ops i) j)) c))
