-- The ByteAlu and AreBytes tuples of a round row by lanes of eight bytes, and what the operands of a lane are: with them its
-- tuples are those of `round_tuple`.
use Rattle.std.specs.Prelude.{ℕ, ◌+◌, ◌*◌, ◌≤◌, ◌<◌, ◌≡◌, List}
use Rattle.lists.specs.Tab.{followed_by, word}
use Rattle.tuple.specs.Tuple.{Tuple}
use Rattle.byte_tuples.specs.Lanes.{op_number}
use Rattle.keccak_rnd.specs.Columns.{NUM-COLUMNS}
use Rattle.keccak_rnd.specs.Tuples.{CXZ-TUPLES, CXZ-LEFT-TUPLES, DXZ-TUPLES, ROT-TUPLES, CHI-ANDS-TUPLES, alu, are_bytes, round_tuple}
use Rattle.keccak_rnd_terms.specs.Terms.{NUM-TERMS, term}
use Rattle.keccak_rnd_operands.specs.declared.Operand.{Operand}
use Rattle.keccak_rnd_operands.specs.declared.Operand.TheVariants.{Column, Term}
use Rattle.keccak_rnd_operands.specs.declared.Operands.{Operands}
use Rattle.keccak_rnd_operands.specs.declared.Pair.{Pair}

-- ---- operands
-- byte z of an operand
unfoldable pub operand_byte : List ℕ → Operand → ℕ → ℕ
operand_byte row (Column k) z = word row (k + z)
operand_byte row (Term k) z = term row (k + z)

-- all eight are there
unfoldable pub Within : Operand → Type 0
Within (Column k) = k + 8 ≤ NUM-COLUMNS
Within (Term k) = k + 8 ≤ NUM-TERMS

-- tuple z of a lane
unfoldable pub lane_tuple : List ℕ → Operands → ℕ → Tuple
lane_tuple row o z = alu row (op_number o.op) (operand_byte row o.a z) (operand_byte row o.b z) (word row (o.c + z))

-- ---- the tuples on the ByteAlu bus, one after the other: 3 to 162, 183 to 422 and 623 to 1,030
unfoldable pub alu_tuple : List ℕ → ℕ → Tuple
alu_tuple row =
    followed_by 160 (λ i. round_tuple row (CXZ-TUPLES + i))
    (followed_by 240 (λ i. round_tuple row (DXZ-TUPLES + i)) (λ i. round_tuple row (CHI-ANDS-TUPLES + i)))

-- lanes of eight of them: where θ's begin, and how many there are
abbrev pub THETA-LANE : ℕ
THETA-LANE = 25

abbrev pub NUM-LANES : ℕ
NUM-LANES = 101

-- ---- what the leaves answer, whatever the row
-- the operands of lane l
pub record OperandsOf (l : ℕ) (o : Operands) : Type 0 where
  pub a-within : Within o.a
  pub b-within : Within o.b
  pub c-within : o.c + 8 ≤ NUM-COLUMNS
  pub tuples : (row : List ℕ) (z : ℕ) → z < 8 → alu_tuple row (8 * l + z) ≡ lane_tuple row o z

-- pair i of C's shifted halfwords: tuples 163 to 182
pub record LeftOf (i : ℕ) (o : Pair) : Type 0 where
  pub a-within : o.a < NUM-COLUMNS
  pub b-within : o.b < NUM-COLUMNS
  pub tuple : (row : List ℕ) → round_tuple row (CXZ-LEFT-TUPLES + i) ≡ are_bytes (word row o.a) (word row o.b)

-- lane l of ρ's parts: tuples 423 to 622
pub record RotOf (l : ℕ) (o : Pair) : Type 0 where
  pub a-within : o.a + 8 ≤ NUM-COLUMNS
  pub b-within : o.b + 8 ≤ NUM-COLUMNS
  pub tuples : (row : List ℕ) (z : ℕ) → z < 8 → round_tuple row (ROT-TUPLES + (8 * l + z)) ≡ are_bytes (word row (o.a + z)) (word row (o.b + z))
