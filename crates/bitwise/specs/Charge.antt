-- Charging by tuples: which counter a sent tuple falls on, and what tuples that are sent leave in the counters.
--     place_row, place_kind    the row and the kind under which a tuple is counted
--     found                  whether some bitwise row has these values on this bus
--     counted                whether some bitwise row has their operands
--     falls_on                whether a tuple is sent, and falls on counter c
--     Placed, PlacedAt       the row and the kind named here have the tuple, and c is their counter
--     Looked                 the kinds that the core table and the round table look up
--     charged_row, charged    what the tuples of a row, and of rows, add to counter c
--     charged_words           the counters afterwards; charged_counters with the words past them
--     charged_kind            what is added to all counters of a kind
-- No formula for a table's lookups stands here: what is added is what the tuples of its rows say. On Msb8, Msb16, Zero and
-- Hwsl no table of this project sends. proofs/Charge.antt: the row and kind named here has the tuple, where one has it.
use Rattle.std.specs.Prelude.{ℕ, ◌+◌, ◌*◌, ◌/◌, ◌%◌, ◌^◌, ◌<◌, ◌≡◌, ◌⊎◌, Bool, false, ◌&&◌, List, ◌++◌, eqb, ltb, length}
use Rattle.lists.specs.Tab.{pick, tab, word}
use Rattle.lists.specs.Sum.{sum_below}
use Rattle.field.specs.Field.{p}
use Rattle.answer.specs.Refusal.{overwrite}
use Rattle.tuple.specs.Tuple.{Tuple, receiver, same_side}
use Rattle.tuple.specs.declared.Bus.{Bus}
use Rattle.tuple.specs.declared.Bus.TheVariants.{ByteAlu, AreBytes, IsHalfword, IsWh, KeccakRc, Keccak, Memw}
use Rattle.tuple.specs.declared.Bus.TheVariants.{Ecall, Msb8, Msb16, Zero, IsB20, Hwsl}
use Rattle.tuple.specs.declared.Side.TheVariants.{Sender}
use Rattle.bitwise.specs.declared.BitwiseOperationType.TheVariants as kind
use Rattle.bitwise.specs.Columns.{NUM-ROWS, NUM-LOOKUP-TYPES, NUM-COUNTERS}
use Rattle.bitwise.specs.Row.{row-index, bitwise_row}
use Rattle.bitwise.specs.Tuples.{lookup-type-index, bitwise_tuple}
use Rattle.bitwise.specs.Found.{alu_found, are_bytes_found, half_found}

-- The row: of two bytes the one with Z 0, of a halfword that of its low and its high byte with Z 0, of 20 bits the only one.
unfoldable pub place_row : Bus → List ℕ → ℕ
place_row ByteAlu v = row-index (word v 1) (word v 2) 0
place_row AreBytes v = row-index (word v 0) (word v 1) 0
place_row IsHalfword v = row-index (word v 0 % 256) (word v 0 / 256) 0
place_row IsB20 v = row-index (word v 0 % 256) (word v 0 / 256 % 256) (word v 0 / 65536)
place_row IsWh v = 0
place_row KeccakRc v = 0
place_row Keccak v = 0
place_row Memw v = 0
place_row Ecall v = 0
place_row Msb8 v = 0
place_row Msb16 v = 0
place_row Zero v = 0
place_row Hwsl v = 0

-- The kind, "as in `lookup_type_index`": AND, OR and XOR by the first value of a ByteAlu tuple.
unfoldable pub place_kind : Bus → List ℕ → ℕ
place_kind ByteAlu v = lookup-type-index kind.ByteAluAnd + word v 0
place_kind AreBytes v = lookup-type-index kind.AreBytes
place_kind IsHalfword v = lookup-type-index kind.IsHalf
place_kind IsB20 v = lookup-type-index kind.IsB20
place_kind IsWh v = 0
place_kind KeccakRc v = 0
place_kind Keccak v = 0
place_kind Memw v = 0
place_kind Ecall v = 0
place_kind Msb8 v = 0
place_kind Msb16 v = 0
place_kind Zero v = 0
place_kind Hwsl v = 0

-- one value of 20 bits
unfoldable pub twenty_found : List ℕ → Bool
twenty_found v = eqb (length v) 1 && ltb (word v 0) (2 ^ 20)

-- whether some bitwise row has these values on this bus
unfoldable pub found : Bus → List ℕ → Bool
found ByteAlu v = alu_found v
found AreBytes v = are_bytes_found v
found IsHalfword v = half_found v
found IsB20 v = twenty_found v
found IsWh v = false
found KeccakRc v = false
found Keccak v = false
found Memw v = false
found Ecall v = false
found Msb8 v = false
found Msb16 v = false
found Zero v = false
found Hwsl v = false

-- an operation and two bytes as its operands, whatever stands as its result
unfoldable pub alu_operands : List ℕ → Bool
alu_operands v = eqb (length v) 4 && (ltb (word v 0) 3 && (ltb (word v 1) 256 && ltb (word v 2) 256))

-- A tuple is counted "each on the bitwise row of its operands": of ByteAlu also where its result is another than the row's, and
-- it is then counted in a row that does not have it. Operands that no row has are not counted, and neither is a tuple on a
-- bus that ends elsewhere.
unfoldable pub counted : Bus → List ℕ → Bool
counted ByteAlu v = alu_operands v
counted AreBytes v = are_bytes_found v
counted IsHalfword v = half_found v
counted IsB20 v = twenty_found v
counted IsWh v = false
counted KeccakRc v = false
counted Keccak v = false
counted Memw v = false
counted Ecall v = false
counted Msb8 v = false
counted Msb16 v = false
counted Zero v = false
counted Hwsl v = false

-- "at row × 10 + kind"
unfoldable pub place_counter : Bus → List ℕ → ℕ
place_counter b v = place_row b v * NUM-LOOKUP-TYPES + place_kind b v

unfoldable pub falls_on : Tuple → ℕ → Bool
falls_on t c =
    same_side Sender t.side && (counted t.bus t.values && eqb c (place_counter t.bus t.values))

-- the row and the kind that are named here have these values, whatever the row's multiplicities
pub record Placed (b : Bus) (v : List ℕ) : Type 0 where
  pub row_lt : place_row b v < 1048576
  pub kind-lt : place_kind b v < 10
  pub tuple : (mus : List ℕ) →
      bitwise_tuple (bitwise_row (place_row b v) ++ mus) (place_kind b v) ≡ receiver b (word mus (place_kind b v)) v

-- and c is their counter: a tuple that falls on it is found in the row that it is charged to
unfoldable pub PlacedAt : Tuple → ℕ → Type 0
PlacedAt t c = Placed t.bus t.values × (c ≡ place_counter t.bus t.values)

-- the kinds that the core table and the round table look up: AreBytes, IsHalfword, AND, XOR
abbrev pub Looked : ℕ → Type 0
Looked k = (k ≡ 3) ⊎ ((k ≡ 4) ⊎ ((k ≡ 7) ⊎ (k ≡ 9)))

-- what m tuples add to counter c: the multiplicities of those that fall on it
unfoldable pub charged_row : ℕ → (ℕ → Tuple) → ℕ → ℕ
charged_row m t c = sum_below m (λ i. pick (falls_on (t i) c) (t i).multiplicity 0)

-- what h rows of m tuples add to it, tuple i of row r being t r i
unfoldable pub charged : ℕ → ℕ → (ℕ → ℕ → Tuple) → ℕ → ℕ
charged h m t c = sum_below h (λ r. charged_row m (t r) c)

-- the counters afterwards, where `added c` was added to counter c: mod p
unfoldable pub charged_words : List ℕ → (ℕ → ℕ) → List ℕ
charged_words counters added = tab NUM-COUNTERS (λ c. (word counters c + added c) % p)

-- and words past the counters as they were
unfoldable pub charged_counters : List ℕ → (ℕ → ℕ) → List ℕ
charged_counters counters added = overwrite (charged_words counters added) counters

-- what is added to all counters of kind k, those of every row, as a whole number
unfoldable pub charged_kind : (ℕ → ℕ) → ℕ → ℕ
charged_kind added k = sum_below NUM-ROWS (λ r. added (r * NUM-LOOKUP-TYPES + k))
