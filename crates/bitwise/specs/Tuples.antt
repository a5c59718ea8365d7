-- tables/bitwise.rs, `bus_interactions`: the ten tuples that a row receives, one for each kind.
use Rattle.std.specs.Prelude.{ℕ, List, [], ◌∷◌, get_or}
use Rattle.lists.specs.Tab.{word}
use Rattle.field.specs.Field.{fadd, fmul}
use Rattle.tuple.specs.Tuple.{Tuple, receiver, ALU-AND, ALU-OR, ALU-XOR}
use Rattle.tuple.specs.declared.Bus.{Bus}
use Rattle.tuple.specs.declared.Bus.TheVariants.{ByteAlu, AreBytes, IsHalfword, Msb8, Msb16, Zero, IsB20, Hwsl}
use Rattle.bitwise.specs.declared.BitwiseOperationType.{BitwiseOperationType}
use Rattle.bitwise.specs.declared.BitwiseOperationType.TheVariants as kind
use Rattle.bitwise.specs.Columns.{X, Y, Z, AND, OR, XOR, MSB8, MSB16, ZERO, SLL, SLLC}
use Rattle.bitwise.specs.Columns.{MU-MSB8, MU-MSB16, MU-ZERO, MU-ARE-BYTES, MU-IS-HALF, MU-IS-B20, MU-HWSL}
use Rattle.bitwise.specs.Columns.{MU-BYTE-ALU-AND, MU-BYTE-ALU-OR, MU-BYTE-ALU-XOR}

-- `lookup_type_index`: the number of a kind.
abbrev pub lookup-type-index : BitwiseOperationType → ℕ
lookup-type-index kind.Msb8 = 0
lookup-type-index kind.Msb16 = 1
lookup-type-index kind.Zero = 2
lookup-type-index kind.AreBytes = 3
lookup-type-index kind.IsHalf = 4
lookup-type-index kind.IsB20 = 5
lookup-type-index kind.Hwsl = 6
lookup-type-index kind.ByteAluAnd = 7
lookup-type-index kind.ByteAluOr = 8
lookup-type-index kind.ByteAluXor = 9

-- `BitwiseOperationType::ALL`: the kinds in the order of their numbers.
abbrev pub ALL : List BitwiseOperationType
ALL =
    kind.Msb8 ∷ kind.Msb16 ∷ kind.Zero ∷ kind.AreBytes ∷ kind.IsHalf ∷ kind.IsB20 ∷ kind.Hwsl
    ∷ kind.ByteAluAnd ∷ kind.ByteAluOr ∷ kind.ByteAluXor ∷ []

-- The kind of a number below 10; past that the last kind, which no call uses.
unfoldable pub kind_at : ℕ → BitwiseOperationType
kind_at i = get_or ALL i kind.ByteAluXor

-- `mu_column`: the column that counts the lookups of a kind.
abbrev pub mu-column : BitwiseOperationType → ℕ
mu-column kind.Msb8 = MU-MSB8
mu-column kind.Msb16 = MU-MSB16
mu-column kind.Zero = MU-ZERO
mu-column kind.AreBytes = MU-ARE-BYTES
mu-column kind.IsHalf = MU-IS-HALF
mu-column kind.IsB20 = MU-IS-B20
mu-column kind.Hwsl = MU-HWSL
mu-column kind.ByteAluAnd = MU-BYTE-ALU-AND
mu-column kind.ByteAluOr = MU-BYTE-ALU-OR
mu-column kind.ByteAluXor = MU-BYTE-ALU-XOR

-- The bus of a kind: AND, OR and XOR share one.
abbrev pub kind_bus : BitwiseOperationType → Bus
kind_bus kind.Msb8 = Msb8
kind_bus kind.Msb16 = Msb16
kind_bus kind.Zero = Zero
kind_bus kind.AreBytes = AreBytes
kind_bus kind.IsHalf = IsHalfword
kind_bus kind.IsB20 = IsB20
kind_bus kind.Hwsl = Hwsl
kind_bus kind.ByteAluAnd = ByteAlu
kind_bus kind.ByteAluOr = ByteAlu
kind_bus kind.ByteAluXor = ByteAlu

-- The two linear terms, mod p: X + 256 Y, and X + 256 Y + 65,536 Z.
abbrev pub half : List ℕ → ℕ
half row = fadd (word row X) (fmul 256 (word row Y))

abbrev pub twenty : List ℕ → ℕ
twenty row = fadd (half row) (fmul 65536 (word row Z))

-- The values of a kind: what is looked up, then what the row answers.
abbrev pub kind_values : List ℕ → BitwiseOperationType → List ℕ
kind_values row kind.Msb8 = word row X ∷ word row MSB8 ∷ []
kind_values row kind.Msb16 = half row ∷ word row MSB16 ∷ []
kind_values row kind.Zero = twenty row ∷ word row ZERO ∷ []
kind_values row kind.AreBytes = word row X ∷ word row Y ∷ []
kind_values row kind.IsHalf = half row ∷ []
kind_values row kind.IsB20 = twenty row ∷ []
kind_values row kind.Hwsl = half row ∷ word row Z ∷ word row SLL ∷ word row SLLC ∷ []
kind_values row kind.ByteAluAnd = ALU-AND ∷ word row X ∷ word row Y ∷ word row AND ∷ []
kind_values row kind.ByteAluOr = ALU-OR ∷ word row X ∷ word row Y ∷ word row OR ∷ []
kind_values row kind.ByteAluXor = ALU-XOR ∷ word row X ∷ word row Y ∷ word row XOR ∷ []

-- How many values a kind has.
abbrev pub kind_size : BitwiseOperationType → ℕ
kind_size kind.Msb8 = 2
kind_size kind.Msb16 = 2
kind_size kind.Zero = 2
kind_size kind.AreBytes = 2
kind_size kind.IsHalf = 1
kind_size kind.IsB20 = 1
kind_size kind.Hwsl = 4
kind_size kind.ByteAluAnd = 4
kind_size kind.ByteAluOr = 4
kind_size kind.ByteAluXor = 4

-- The tuple of a kind, which the row receives as often as its column of that kind says.
abbrev pub kind_tuple : List ℕ → BitwiseOperationType → Tuple
kind_tuple row k = receiver (kind_bus k) (word row (mu-column k)) (kind_values row k)

-- Tuple i of a row of 21 columns, in the order of `bus_interactions`.
abbrev pub bitwise_tuple : List ℕ → ℕ → Tuple
bitwise_tuple row i = kind_tuple row (kind_at i)
