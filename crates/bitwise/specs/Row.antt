-- tables/bitwise.rs, `generate_bitwise_row` and `row_index`: a row by its index.
use Rattle.std.specs.Prelude.{ℕ, ◌+◌, ◌*◌, ◌/◌, ◌%◌, ◌&&◌, List, [], ◌∷◌, eqb, length}
use Rattle.std.proofs.Math.Option.{Option}
use Rattle.std.specs.Int.Bits.{bit_xor, bit_and, bit_or}
use Rattle.lists.specs.Tab.{pick}
use Rattle.bits.specs.Bits.{hwsl, hwsl_carry}
use Rattle.answer.specs.Refusal.{accepted, overwrite, afterwards, past_end, too_short}
use Rattle.answer.specs.declared.Refusal.{Refusal}
use Rattle.bitwise.specs.Columns.{NUM-ROWS, NUM-PRECOMPUTED-COLS, Z-END}

-- The eleven fixed columns of the row of X, Y and Z, in the order of Columns: X, Y, Z; "AND, OR, XOR of X and Y; MSB8
-- is X's top bit, MSB16 that of H = X + 256·Y; ZERO is 1 at index 0 only; SLL = H·2^Z mod 65,536; SLLC = H·2^Z div
-- 65,536."
unfoldable pub row_of_xyz : ℕ → ℕ → ℕ → List ℕ
row_of_xyz x y z =
    x ∷ y ∷ z ∷ bit_and x y ∷ bit_or x y ∷ bit_xor x y ∷ x / 128 % 2 ∷ (x + y * 256) / 32768 % 2
    ∷ pick (eqb x 0 && (eqb y 0 && eqb z 0)) 1 0 ∷ hwsl (x + y * 256) z ∷ hwsl_carry (x + y * 256) z ∷ []

-- `row_index`, of the row of X, Y and Z: "index = X + 256·Y + 65,536·Z, below 1,048,576".
abbrev pub row-index : ℕ → ℕ → ℕ → ℕ
row-index x y z = x + y * 256 + z * 65536

-- `generate_bitwise_row`: row i, its X, Y and Z read from the index.
unfoldable pub bitwise_row : ℕ → List ℕ
bitwise_row i = row_of_xyz (i % 256) (i / 256 % 256) (i / 65536 % 16)

-- What `generate_bitwise_row` refuses: 1 an index past the last row, 3 a row shorter than the fixed columns.
unfoldable pub bitwise_row_refusal : ℕ → List ℕ → Option Refusal
bitwise_row_refusal i row =
    past_end NUM-ROWS i
    (too_short (length row) NUM-PRECOMPUTED-COLS
    accepted)

-- What it leaves in the slice that it is lent: the row, or the old words where it is refused.
abbrev pub bitwise_row_after : ℕ → List ℕ → List ℕ
bitwise_row_after i row = afterwards (bitwise_row_refusal i row) (overwrite (bitwise_row i) row) row

-- What `row_index` refuses: 1 a Z of 16 or more.
unfoldable pub index_refusal : ℕ → Option Refusal
index_refusal z = past_end Z-END z accepted
