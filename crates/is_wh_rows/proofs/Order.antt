-- The rows ascend, those of one key with the full ones first, and each counts from 1 to 2^20 - 1.
use mathlib.Core.Path.{◌≡◌, refl, sym, subst}
use mathlib.Core.Logic.{◌⊎◌, inl, inr}
use mathlib.Core.List.{List, [], ◌∷◌, ◌++◌}
use Prim.Native.Nat.{ℕ, zero, suc, ◌+◌, ◌≤◌, ◌<◌}
use native.Mathlib.Omega.{arith}
use lib.ListN.{length}
use Rattle.lists.specs.Tab.{tab, tab_from}
use Rattle.sort.specs.Sorted.{copies}
use Rattle.sort.proofs.Words.{Least}
use Rattle.is_wh_rows.specs.Rows.{Row, MU-MAX, distinct, row_of, rows_needed, mu_of, key_rows, rows_for, rows_of}
use Rattle.is_wh_rows.specs.Meaning.{nth, code_of, InOrder, InRange}
use Rattle.is_wh_rows.proofs.Counts.{Strict, strict-distinct}

-- ---- what holds of each row

abbrev pub Each : (Row → Type 0) → List Row → Type 0
Each P [] = Unit {0}
Each P (r ∷ rs) = P r × Each P rs

pub each_append : (P : Row → Type 0) (a b : List Row) → Each P a → Each P b → Each P (a ++ b)
each_append P [] b h k = k
each_append P (r ∷ a) b h k = (h.0, each_append P a b h.1 k)

each_map : (P Q : Row → Type 0) (a : List Row) → ((r : Row) → P r → Q r) → Each P a → Each Q a
each_map P Q [] f h = tt
each_map P Q (r ∷ a) f h = (f r h.0, each_map P Q a f h.1)

each_from : (P : Row → Type 0) (i m : ℕ) (f : ℕ → Row) → ((j : ℕ) → i ≤ j → j < i + m → P (f j)) → Each P (tab_from i m f)
unfolding tab_from
each_from P i zero f h = tt
each_from P i (suc m) f h = (h i (omega arith) (omega arith), each_from P (suc i) m f (λ j l b. h j (omega arith) (omega arith)))

each_at : (P : Row → Type 0) (a : List Row) → Each P a → (i : ℕ) → i < length a → P (nth a i)
each_at P [] h i l = absurd (omega arith)
each_at P (r ∷ a) h zero l = h.0
each_at P (r ∷ a) h (suc i) l = each_at P a h.1 i (omega arith)

pub each-key : (P : Row → Type 0) (c n : ℕ) → ((j : ℕ) → j < rows_needed n → P (row_of c (mu_of n j))) → Each P (key_rows c n)
unfolding key_rows tab
each-key P c n h = each_from P 0 (rows_needed n) (λ j. row_of c (mu_of n j)) (λ j l b. h j (omega arith))

-- ---- the counts

ranged-for : (f : ℕ → ℕ) (ks : List ℕ) → Each (λ r. (1 ≤ r.mu) × (r.mu ≤ MU-MAX)) (rows_for f ks)
unfolding rows_for
ranged-for f [] = tt
ranged-for f (k ∷ ks) =
    each_append _ (key_rows k (f k)) (rows_for f ks) (each-key _ k (f k) (λ j l. range (f k) j l)) (ranged-for f ks)
  where
    range : (n j : ℕ) → j < rows_needed n → (1 ≤ mu_of n j) × (mu_of n j ≤ MU-MAX)
    range n j l = (omega arith, omega arith)

pub rows-in-range : (cs : List ℕ) → InRange (rows_of cs)
unfolding rows_of InRange
rows-in-range cs = each_at _ (rows_for (λ k. copies k cs) (distinct cs)) (ranged-for (λ k. copies k cs) (distinct cs))

-- ---- the order

abbrev Before : Row → Row → Type 0
Before r s = (code_of r < code_of s) ⊎ ((code_of r ≡ code_of s) × (r.mu ≡ MU-MAX))

abbrev Ordered : List Row → Type 0
Ordered [] = Unit {0}
Ordered (r ∷ rs) = Each (Before r) rs × Ordered rs

ordered-append : (a b : List Row) → Ordered a → Ordered b → Each (λ r. Each (Before r) b) a → Ordered (a ++ b)
ordered-append [] b h k c = k
ordered-append (r ∷ a) b h k c = (each_append (Before r) a b h.0 c.0, ordered-append a b h.1 k c.1)

ordered-from : (i m : ℕ) (f : ℕ → Row) → ((j k : ℕ) → j < k → k < i + m → Before (f j) (f k)) → Ordered (tab_from i m f)
unfolding tab_from
ordered-from i zero f h = tt
ordered-from i (suc m) f h =
    (each_from (Before (f i)) (suc i) m f (λ j l b. h i j (omega arith) (omega arith)), ordered-from (suc i) m f (λ j k l b. h j k l (omega arith)))

ordered_at : (a : List Row) → Ordered a → (i j : ℕ) → i < j → j < length a → Before (nth a i) (nth a j)
ordered_at [] h i j l b = absurd (omega arith)
ordered_at (r ∷ a) h i zero l b = absurd (omega arith)
ordered_at (r ∷ a) h zero (suc j) l b = each_at (Before r) a h.0 j (omega arith)
ordered_at (r ∷ a) h (suc i) (suc j) l b = ordered_at a h.1 i j (omega arith) (omega arith)

code_is : (c n : ℕ) → code_of (row_of c n) ≡ c
code_is c n = omega arith

-- of one key: all rows but the last are full
ordered-key : (c n : ℕ) → Ordered (key_rows c n)
unfolding key_rows tab
ordered-key c n = ordered-from 0 (rows_needed n) (λ j. row_of c (mu_of n j)) (λ j k l b. inr (refl, full j k l b))
  where
    full : (j k : ℕ) → j < k → k < 0 + rows_needed n → mu_of n j ≡ MU-MAX
    full j k l b = omega arith

above : (f : ℕ → ℕ) (ks : List ℕ) (x : ℕ) → Least x ks → Each (λ r. x ≤ code_of r) (rows_for f ks)
unfolding rows_for
above f [] x h = tt
above f (k ∷ ks) x h =
    each_append _ (key_rows k (f k)) (rows_for f ks)
    (each-key _ k (f k) (λ j l. subst (λ (c : ℕ). x ≤ c) (sym (code_is k (mu_of (f k) j))) h.0))
    (above f ks x h.1)

ordered-for : (f : ℕ → ℕ) (ks : List ℕ) → Strict ks → Ordered (rows_for f ks)
unfolding rows_for
ordered-for f [] h = tt
ordered-for f (k ∷ ks) h =
    ordered-append (key_rows k (f k)) (rows_for f ks) (ordered-key k (f k)) (ordered-for f ks h.1)
    (each-key _ k (f k)
    (λ j l.
    each_map (λ r. suc k ≤ code_of r) (Before (row_of k (mu_of (f k) j))) (rows_for f ks)
    (λ r m. inl (subst (λ (c : ℕ). c < code_of r) (sym (code_is k (mu_of (f k) j))) m)) (above f ks (suc k) h.0)))

pub rows-in-order : (cs : List ℕ) → InOrder (rows_of cs)
unfolding rows_of InOrder
rows-in-order cs = ordered_at (rows_for (λ k. copies k cs) (distinct cs)) (ordered-for (λ k. copies k cs) (distinct cs) (strict-distinct cs))
