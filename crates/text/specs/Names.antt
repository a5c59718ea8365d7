-- The names of the buses, as bytes: those of the lines of `tally` and of the line of a verdict.
use Rattle.std.specs.Prelude.{ℕ, List, [], ◌∷◌}
use Rattle.tuple.specs.declared.Bus.{Bus}
use Rattle.tuple.specs.declared.Bus.TheVariants.{ByteAlu, AreBytes, IsHalfword, IsWh, KeccakRc, Keccak, Memw}
use Rattle.tuple.specs.declared.Bus.TheVariants.{Ecall, Msb8, Msb16, Zero, IsB20, Hwsl}

-- "ByteAlu", "AreBytes", "IsHalfword", "IsWh", "KeccakRc", "Keccak", "Memw", "Ecall"; then the buses of the bitwise table
-- alone: "Msb8", "Msb16", "Zero", "IsB20", "Hwsl"
abbrev pub bus_name : Bus → List ℕ
bus_name ByteAlu = 66 ∷ 121 ∷ 116 ∷ 101 ∷ 65 ∷ 108 ∷ 117 ∷ []
bus_name AreBytes = 65 ∷ 114 ∷ 101 ∷ 66 ∷ 121 ∷ 116 ∷ 101 ∷ 115 ∷ []
bus_name IsHalfword = 73 ∷ 115 ∷ 72 ∷ 97 ∷ 108 ∷ 102 ∷ 119 ∷ 111 ∷ 114 ∷ 100 ∷ []
bus_name IsWh = 73 ∷ 115 ∷ 87 ∷ 104 ∷ []
bus_name KeccakRc = 75 ∷ 101 ∷ 99 ∷ 99 ∷ 97 ∷ 107 ∷ 82 ∷ 99 ∷ []
bus_name Keccak = 75 ∷ 101 ∷ 99 ∷ 99 ∷ 97 ∷ 107 ∷ []
bus_name Memw = 77 ∷ 101 ∷ 109 ∷ 119 ∷ []
bus_name Ecall = 69 ∷ 99 ∷ 97 ∷ 108 ∷ 108 ∷ []
bus_name Msb8 = 77 ∷ 115 ∷ 98 ∷ 56 ∷ []
bus_name Msb16 = 77 ∷ 115 ∷ 98 ∷ 49 ∷ 54 ∷ []
bus_name Zero = 90 ∷ 101 ∷ 114 ∷ 111 ∷ []
bus_name IsB20 = 73 ∷ 115 ∷ 66 ∷ 50 ∷ 48 ∷ []
bus_name Hwsl = 72 ∷ 119 ∷ 115 ∷ 108 ∷ []
