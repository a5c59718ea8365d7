-- A row's tuples read only its 21 columns.
use mathlib.Core.Path.{◌≡◌}
use mathlib.Core.List.{List, [], ◌∷◌}
use Prim.Native.Nat.{ℕ, ◌<◌}
use native.Mathlib.Omega.{arith}
use Rattle.lists.specs.Tab.{word}
use Rattle.lists.proofs.Reading.{Alike, ReadsFirst}
use Rattle.field.specs.Field.{fadd, fmul}
use Rattle.tuple.specs.Tuple.{receiver}
use Rattle.tuple.specs.Call.{RestNotRead}
use Rattle.tuple.proofs.Reading.{tuple-rest}
use Rattle.bitwise.specs.declared.BitwiseOperationType.{BitwiseOperationType}
use Rattle.bitwise.specs.declared.BitwiseOperationType.TheVariants as kind
use Rattle.bitwise.specs.Columns.{X, Y, Z, AND, OR, XOR, MSB8, MSB16, ZERO, SLL, SLLC, NUM-COLUMNS, NUM-LOOKUP-TYPES}
use Rattle.bitwise.specs.Tuples.{kind_at, kind_bus, kind_values, mu-column, half, twenty, bitwise_tuple}
use Rattle.bitwise.proofs.Numbers.{by_kind}

mu-lt : (k : BitwiseOperationType) → mu-column k < NUM-COLUMNS
mu-lt = by_kind (λ k. mu-column k < NUM-COLUMNS) (omega arith) (omega arith) (omega arith) (omega arith) (omega arith) (omega arith) (omega arith) (omega arith) (omega arith) (omega arith)

module _ (row other : List ℕ) (same : Alike NUM-COLUMNS row other) where
  half-same : half row ≡ half other
  half-same = let x = same X (omega arith) in let y = same Y (omega arith) in λ t. fadd (x t) (fmul 256 (y t))

  twenty-same : twenty row ≡ twenty other
  twenty-same = let z = same Z (omega arith) in λ t. fadd (half-same t) (fmul 65536 (z t))

  -- a ByteAlu tuple whose answer stands in a column
  alu-same : (op k : ℕ) → k < NUM-COLUMNS → (op ∷ word row X ∷ word row Y ∷ word row k ∷ []) ≡ (op ∷ word other X ∷ word other Y ∷ word other k ∷ [])
  alu-same op k h = let x = same X (omega arith) in let y = same Y (omega arith) in λ t. op ∷ x t ∷ y t ∷ same k h t ∷ []

  values_same : (k : BitwiseOperationType) → kind_values row k ≡ kind_values other k
  values_same kind.Msb8 = let x = same X (omega arith) in let a = same MSB8 (omega arith) in λ t. x t ∷ a t ∷ []
  values_same kind.Msb16 = let a = same MSB16 (omega arith) in λ t. half-same t ∷ a t ∷ []
  values_same kind.Zero = let a = same ZERO (omega arith) in λ t. twenty-same t ∷ a t ∷ []
  values_same kind.AreBytes = let x = same X (omega arith) in let y = same Y (omega arith) in λ t. x t ∷ y t ∷ []
  values_same kind.IsHalf = λ t. half-same t ∷ []
  values_same kind.IsB20 = λ t. twenty-same t ∷ []
  values_same kind.Hwsl =
      let z = same Z (omega arith) in let a = same SLL (omega arith) in let c = same SLLC (omega arith) in
      λ t. half-same t ∷ z t ∷ a t ∷ c t ∷ []
  values_same kind.ByteAluAnd = alu-same 0 AND (omega arith)
  values_same kind.ByteAluOr = alu-same 1 OR (omega arith)
  values_same kind.ByteAluXor = alu-same 2 XOR (omega arith)

pub tuple-reads : ReadsFirst NUM-COLUMNS NUM-LOOKUP-TYPES bitwise_tuple
tuple-reads row other same i l =
    let k = kind_at i in
    let mu = same (mu-column k) (mu-lt k) in
    let values = values_same row other same k in
    λ t. receiver (kind_bus k) (mu t) (values t)

pub rest-not-read : RestNotRead NUM-COLUMNS NUM-LOOKUP-TYPES bitwise_tuple
rest-not-read = tuple-rest NUM-COLUMNS NUM-LOOKUP-TYPES bitwise_tuple tuple-reads
