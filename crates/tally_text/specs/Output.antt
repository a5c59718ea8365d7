-- What `tally` writes: the bytes of its lines.
use Rattle.std.specs.Prelude.{ℕ, zero, suc, List, [], ◌∷◌, ◌++◌, eqb}
use Rattle.lists.specs.Tab.{pick}
use Rattle.text.specs.Text.{decimal_of, named_number}
use Rattle.text.specs.Names.{bus_name}
use Rattle.answer.specs.Refusal.{refusal_number, refusal_detail}
use Rattle.tuple.specs.declared.Bus.{Bus}
use Rattle.tuple.specs.declared.Bus.TheVariants.{ByteAlu, AreBytes, IsHalfword, IsWh, KeccakRc, Memw, Ecall}
use Rattle.op_file.specs.declared.Segments.{Segments}
use Rattle.op_file.specs.declared.Sums.{Sums}
use Rattle.std.specs.Prelude.{Result, Ok, Err}
use Rattle.answer.specs.declared.Refusal.{Refusal}

-- "ops "
abbrev pub ops-name : List ℕ
ops-name = 111 ∷ 112 ∷ 115 ∷ 32 ∷ []

-- "core-rows "
abbrev pub core-rows-name : List ℕ
core-rows-name = 99 ∷ 111 ∷ 114 ∷ 101 ∷ 45 ∷ 114 ∷ 111 ∷ 119 ∷ 115 ∷ 32 ∷ []

-- "round-rows "
abbrev pub round-rows-name : List ℕ
round-rows-name = 114 ∷ 111 ∷ 117 ∷ 110 ∷ 100 ∷ 45 ∷ 114 ∷ 111 ∷ 119 ∷ 115 ∷ 32 ∷ []

-- a bus's name and a space
abbrev pub bus_label : Bus → List ℕ
bus_label b = bus_name b ++ (32 ∷ [])

-- "segments "
abbrev pub segments-name : List ℕ
segments-name = 115 ∷ 101 ∷ 103 ∷ 109 ∷ 101 ∷ 110 ∷ 116 ∷ 115 ∷ 32 ∷ []

-- "unaligned "
abbrev pub unaligned-name : List ℕ
unaligned-name = 117 ∷ 110 ∷ 97 ∷ 108 ∷ 105 ∷ 103 ∷ 110 ∷ 101 ∷ 100 ∷ 32 ∷ []

-- "refused "
abbrev pub refused-name : List ℕ
refused-name = 114 ∷ 101 ∷ 102 ∷ 117 ∷ 115 ∷ 101 ∷ 100 ∷ 32 ∷ []

-- the first three lines; those of the lookups in bitwise and constant rows; the others
unfoldable pub height_lines : Sums → List ℕ
height_lines s =
    named_number ops-name s.ops ++ named_number core-rows-name s.core_rows ++ named_number round-rows-name s.round_rows

unfoldable pub lookup_lines : Sums → List ℕ
lookup_lines s =
    named_number (bus_label ByteAlu) s.byte_alu
    ++ named_number (bus_label AreBytes) s.are_bytes
    ++ named_number (bus_label KeccakRc) s.keccak_rc
    ++ named_number (bus_label IsHalfword) s.is_halfword

unfoldable pub other_lines : Sums → List ℕ
other_lines s = named_number (bus_label IsWh) s.is_wh ++ named_number (bus_label Memw) s.memw ++ named_number (bus_label Ecall) s.ecall

-- a name, which ends in a space, and two numbers on a line
unfoldable pub pair_line : List ℕ → ℕ → ℕ → List ℕ
pair_line name a b = name ++ decimal_of a ++ named_number (32 ∷ []) b

-- "Where a counted record is marked 4B 50, `tally` prints `segments A B`, .. before `unaligned`."
unfoldable pub segments_line : Segments → List ℕ
segments_line s = pick (eqb s.shown 0) [] (pair_line segments-name s.least s.greatest)

-- "a last line `unaligned N`, which stands only when N is above zero"
unfoldable pub unaligned_line : ℕ → List ℕ
unaligned_line zero = []
unaligned_line (suc k) = named_number unaligned-name (suc k)

-- all ten and the last two, or `refused N D`
unfoldable pub text_of : Result Sums Refusal → List ℕ
text_of (Ok s) = height_lines s ++ lookup_lines s ++ other_lines s ++ segments_line s.segments ++ unaligned_line s.unaligned
text_of (Err r) = pair_line refused-name (refusal_number r) (refusal_detail r)
