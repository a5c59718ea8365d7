-- The tuples of a lane of eight, byte by byte.
use Rattle.std.specs.Prelude.{ℕ, ◌+◌, List, [], ◌∷◌}
use Rattle.lists.specs.Tab.{word}
use Rattle.tuple.specs.Tuple.{Tuple, sender, ALU-AND, ALU-XOR}
use Rattle.tuple.specs.declared.Bus.TheVariants.{ByteAlu, AreBytes}
use Rattle.byte_tuples.specs.declared.Op.{Op}
use Rattle.byte_tuples.specs.declared.Op.TheVariants.{And, Xor}

-- an operation by its number
unfoldable pub op_number : Op → ℕ
op_number And = ALU-AND
op_number Xor = ALU-XOR

-- op on the words of a and of b, in those of row from c
abbrev pub alu_lane : ℕ → ℕ → List ℕ → List ℕ → List ℕ → ℕ → ℕ → Tuple
alu_lane m op a b row c z = sender ByteAlu m (op ∷ word a z ∷ word b z ∷ word row (c + z) ∷ [])

-- the words from a and from b are bytes
abbrev pub bytes_lane : List ℕ → ℕ → ℕ → ℕ → Tuple
bytes_lane row a b z = sender AreBytes 1 (word row (a + z) ∷ word row (b + z) ∷ [])
