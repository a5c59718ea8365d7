-- The kinds of lookup by their numbers: `ALL` and `lookup_type_index` are inverse, and the columns that count them follow
-- each other in that order.
use Prim.Native.Nat.{ℕ, suc, zero, ◌+◌, ◌-◌, ◌≤◌, ◌<◌}
use mathlib.Core.Path.{◌≡◌, refl, ap, ◌∙◌}
use mathlib.Core.List.{List, [], ◌∷◌}
use native.Mathlib.Omega.{arith}
use lib.ListN.{length, get_or}
use Rattle.bitwise.specs.declared.BitwiseOperationType.{BitwiseOperationType}
use Rattle.bitwise.specs.declared.BitwiseOperationType.TheVariants as kind
use Rattle.bitwise.specs.Columns.{NUM-PRECOMPUTED-COLS, NUM-LOOKUP-TYPES}
use Rattle.bitwise.specs.Tuples.{lookup-type-index, kind_at, mu-column, kind_values, kind_size}

-- a statement of every kind, from one for each
pub by_kind : (P : BitwiseOperationType → Type 0) → P kind.Msb8 → P kind.Msb16 → P kind.Zero → P kind.AreBytes → P kind.IsHalf → P kind.IsB20 → P kind.Hwsl → P kind.ByteAluAnd → P kind.ByteAluOr → P kind.ByteAluXor
    → (k : BitwiseOperationType) → P k
by_kind P a b c d e f g h i j kind.Msb8 = a
by_kind P a b c d e f g h i j kind.Msb16 = b
by_kind P a b c d e f g h i j kind.Zero = c
by_kind P a b c d e f g h i j kind.AreBytes = d
by_kind P a b c d e f g h i j kind.IsHalf = e
by_kind P a b c d e f g h i j kind.IsB20 = f
by_kind P a b c d e f g h i j kind.Hwsl = g
by_kind P a b c d e f g h i j kind.ByteAluAnd = h
by_kind P a b c d e f g h i j kind.ByteAluOr = i
by_kind P a b c d e f g h i j kind.ByteAluXor = j

-- every kind is at its number
pub kind-of-index : (k : BitwiseOperationType) → kind_at (lookup-type-index k) ≡ k
unfolding kind_at
kind-of-index = by_kind (λ k. kind_at (lookup-type-index k) ≡ k) refl refl refl refl refl refl refl refl refl refl

-- past the ninth the kind is the last
pub kind-last : (i : ℕ) → 9 ≤ i → kind_at i ≡ kind.ByteAluXor
unfolding kind_at
kind-last i h = let e : i ≡ suc (suc (suc (suc (suc (suc (suc (suc (suc (i - 9))))))))) = omega arith in ap kind_at e ∙ late (i - 9)
  where
    late : (k : ℕ) → get_or (kind.ByteAluXor ∷ []) k kind.ByteAluXor ≡ kind.ByteAluXor
    late zero = refl
    late (suc k) = refl

-- every number below 10 is that of its kind
pub index-of-kind : (i : ℕ) → i < NUM-LOOKUP-TYPES → lookup-type-index (kind_at i) ≡ i
unfolding kind_at
index-of-kind zero h = refl
index-of-kind (suc zero) h = refl
index-of-kind (suc (suc zero)) h = refl
index-of-kind (suc (suc (suc zero))) h = refl
index-of-kind (suc (suc (suc (suc zero)))) h = refl
index-of-kind (suc (suc (suc (suc (suc zero))))) h = refl
index-of-kind (suc (suc (suc (suc (suc (suc zero)))))) h = refl
index-of-kind (suc (suc (suc (suc (suc (suc (suc zero))))))) h = refl
index-of-kind (suc (suc (suc (suc (suc (suc (suc (suc zero)))))))) h = refl
index-of-kind (suc (suc (suc (suc (suc (suc (suc (suc (suc k))))))))) h =
    ap lookup-type-index (kind-last (suc (suc (suc (suc (suc (suc (suc (suc (suc k))))))))) (omega arith)) ∙ (omega arith)

-- the columns that count stand behind the fixed ones, in the order of the kinds' numbers
pub mu-column-of : (k : BitwiseOperationType) → mu-column k ≡ NUM-PRECOMPUTED-COLS + lookup-type-index k
mu-column-of = by_kind (λ k. mu-column k ≡ NUM-PRECOMPUTED-COLS + lookup-type-index k) refl refl refl refl refl refl refl refl refl refl

pub mu-column-at : (i : ℕ) → i < NUM-LOOKUP-TYPES → mu-column (kind_at i) ≡ NUM-PRECOMPUTED-COLS + i
mu-column-at i h = mu-column-of (kind_at i) ∙ ap (λ (j : ℕ). NUM-PRECOMPUTED-COLS + j) (index-of-kind i h)

-- how many values a kind has, and at most four
pub kind-size : (row : List ℕ) (k : BitwiseOperationType) → length (kind_values row k) ≡ kind_size k
kind-size row = by_kind (λ k. length (kind_values row k) ≡ kind_size k) refl refl refl refl refl refl refl refl refl refl

pub size-le : (k : BitwiseOperationType) → kind_size k ≤ 4
size-le = by_kind (λ k. kind_size k ≤ 4) (omega arith) (omega arith) (omega arith) (omega arith) (omega arith) (omega arith) (omega arith) (omega arith) (omega arith) (omega arith)
