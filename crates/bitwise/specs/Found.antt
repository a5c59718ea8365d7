-- When values on a bus occur among the tuples of the 2^20 bitwise rows, and the direct tests of it.
use Rattle.std.specs.Prelude.{ℕ, zero, suc, ◌<◌, Bool, ◌&&◌, List, ◌≡◌, eqb, ltb, length, get_or}
use Rattle.std.specs.Int.Bits.{bit_xor, bit_and, bit_or}
use Rattle.bitwise.specs.declared.BitwiseOperationType.{BitwiseOperationType}
use Rattle.tuple.specs.declared.Bus.{Bus}
use Rattle.bitwise.specs.Columns.{NUM-ROWS}
use Rattle.bitwise.specs.Row.{bitwise_row}
use Rattle.bitwise.specs.Tuples.{kind_bus, kind_values}

-- Values on a bus occur among the tuples of the 2^20 rows: some row has them, as its tuple of some kind on that bus.
pub record BitwiseFound (b : Bus) (vs : List ℕ) : Type 0 where
  pub index : ℕ
  pub kind : BitwiseOperationType
  pub index-lt : index < NUM-ROWS
  pub bus : kind_bus kind ≡ b
  pub values : kind_values (bitwise_row index) kind ≡ vs

-- The operations of ByteAlu by their numbers: 0 AND, 1 OR, 2 XOR.
unfoldable pub alu_op : ℕ → ℕ → ℕ → ℕ
alu_op zero a b = bit_and a b
alu_op (suc zero) a b = bit_or a b
alu_op (suc (suc k)) a b = bit_xor a b

-- The same of four values on ByteAlu, by a plain condition: an operation, two bytes, and its result on them.
unfoldable pub AluFound : List ℕ → Type 0
AluFound vs =
    (length vs ≡ 4) × (get_or vs 0 0 < 3) × (get_or vs 1 0 < 256) × (get_or vs 2 0 < 256)
    × (get_or vs 3 0 ≡ alu_op (get_or vs 0 0) (get_or vs 1 0) (get_or vs 2 0))

-- The test of that condition.
unfoldable pub alu_found : List ℕ → Bool
alu_found vs =
    eqb (length vs) 4
    && (ltb (get_or vs 0 0) 3
    && (ltb (get_or vs 1 0) 256
    && (ltb (get_or vs 2 0) 256 && eqb (get_or vs 3 0) (alu_op (get_or vs 0 0) (get_or vs 1 0) (get_or vs 2 0)))))

-- The same of two values on AreBytes: both are bytes. And its test.
unfoldable pub AreBytesFound : List ℕ → Type 0
AreBytesFound vs = (length vs ≡ 2) × (get_or vs 0 0 < 256) × (get_or vs 1 0 < 256)

unfoldable pub are_bytes_found : List ℕ → Bool
are_bytes_found vs = eqb (length vs) 2 && (ltb (get_or vs 0 0) 256 && ltb (get_or vs 1 0) 256)

-- The same of one value on IsHalfword: it is below 2^16. And its test.
unfoldable pub HalfFound : List ℕ → Type 0
HalfFound vs = (length vs ≡ 1) × (get_or vs 0 0 < 65536)

unfoldable pub half_found : List ℕ → Bool
half_found vs = eqb (length vs) 1 && ltb (get_or vs 0 0) 65536
