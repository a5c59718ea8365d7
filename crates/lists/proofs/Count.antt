-- Laws of counts over indices, and of sums of counts.
--     count_same, count_add   tests that agree below n; a count over m + n indices
--     count-find, sum-find    where a count or a sum is not 0, something was counted
--     count-hit               and the other way, for a count
--     count-before            fewer pass before one that passes
--     count-one               a test that can pass at one index only
--     sum-tests               a sum of ones for passed tests is a count
use mathlib.Core.Path.{◌≡◌, refl, sym, ap, ap₂, subst, ◌∙◌}
use mathlib.Core.Bool.{Bool, true, false}
use mathlib.Core.Logic.{◌⊎◌, inl, inr}
use Prim.Native.Nat.{ℕ, zero, suc, ◌+◌, ◌-◌, ◌≤◌, ◌<◌}
use native.Mathlib.Nat.{eq-or-lt_of_le, le_of_suc-le-suc}
use native.Mathlib.Omega.{arith}
use Rattle.lists.specs.Tab.{pick}
use Rattle.lists.specs.First.{count_below}
use Rattle.lists.specs.Sum.{sum_below}
use Rattle.lists.proofs.Tests.{true-not-false}

pub count_same : (t s : ℕ → Bool) (n : ℕ) → ((k : ℕ) → k < n → t k ≡ s k) → count_below t n ≡ count_below s n
unfolding count_below
count_same t s zero h = refl
count_same t s (suc n) h = rw (count_same t s n (λ k l. h k (omega arith)), h n (omega arith))

pub count_add : (t : ℕ → Bool) (m n : ℕ) → count_below t (m + n) ≡ count_below t m + count_below (λ k. t (m + k)) n
unfolding count_below
count_add t m zero = ap (count_below t) (e m) ∙ omega arith
  where
    e : (m : ℕ) → m + 0 ≡ m
    e m = omega arith
count_add t m (suc n) = ap (count_below t) (e m n) ∙ go (t (m + n)) (count_add t m n)
  where
    e : (m n : ℕ) → m + suc n ≡ suc (m + n)
    e m n = omega arith

    go : (b : Bool) → count_below t (m + n) ≡ count_below t m + count_below (λ k. t (m + k)) n →
        pick b (count_below t (m + n) + 1) (count_below t (m + n)) ≡ count_below t m + pick b (count_below (λ k. t (m + k)) n + 1) (count_below (λ k. t (m + k)) n)
    go true h = omega arith
    go false h = h

pub count-find : (t : ℕ → Bool) (n : ℕ) → 1 ≤ count_below t n → (r : ℕ) × (r < n) × (t r ≡ true)
unfolding count_below
count-find t zero h = absurd (omega arith)
count-find t (suc n) h = go (t n) refl h (count-find t n)
  where
    go : (b : Bool) → t n ≡ b → 1 ≤ pick b (count_below t n + 1) (count_below t n) → (1 ≤ count_below t n → (r : ℕ) × (r < n) × (t r ≡ true)) → (r : ℕ) × (r < suc n) × (t r ≡ true)
    go true e l back = (n, omega arith, e)
    go false e l back = let f = back l in (f.0, omega (arith, f.1), f.2)

pub count-hit : (t : ℕ → Bool) (n k : ℕ) → k < n → t k ≡ true → 1 ≤ count_below t n
unfolding count_below
count-hit t zero k l e = absurd (omega arith)
count-hit t (suc n) k l e = go (t n) refl (eq-or-lt_of_le (le_of_suc-le-suc l)) (λ g. count-hit t n k g e)
  where
    go : (b : Bool) → t n ≡ b → (k ≡ n) ⊎ (k < n) → (k < n → 1 ≤ count_below t n) → 1 ≤ pick b (count_below t n + 1) (count_below t n)
    go true f c back = omega arith
    go false f (inl q) back = absurd (true-not-false (sym e ∙ ap t q ∙ f))
    go false f (inr g) back = back g

-- where a test passes at r, below n, fewer passed before r than do below n
pub count-before : (t : ℕ → Bool) (n r : ℕ) → r < n → t r ≡ true → count_below t r < count_below t n
count-before t n r l e =
    let m : ℕ = n - r in
    let here : r + 0 ≡ r = omega arith in
    let size : r + m ≡ n = omega arith in
    subst (λ (k : ℕ). count_below t r < count_below t k) size (omega (arith, count_add t r m, count-hit (λ k. t (r + k)) m 0 (omega arith) (ap t here ∙ e)))

pub sum-find : (f : ℕ → ℕ) (n : ℕ) → 1 ≤ sum_below n f → (r : ℕ) × (r < n) × (1 ≤ f r)
unfolding sum_below
sum-find f zero h = absurd (omega arith)
sum-find f (suc n) h = go (f n) refl (sum-find f n)
  where
    go : (k : ℕ) → f n ≡ k → (1 ≤ sum_below n f → (r : ℕ) × (r < n) × (1 ≤ f r)) → (r : ℕ) × (r < suc n) × (1 ≤ f r)
    go zero e back = let g = back (omega arith) in (g.0, omega (arith, g.1), g.2)
    go (suc k) e back = (n, omega arith, omega arith)

count-zero : (t : ℕ → Bool) (n : ℕ) → ((k : ℕ) → k < n → t k ≡ false) → count_below t n ≡ 0
unfolding count_below
count-zero t zero h = refl
count-zero t (suc n) h = rw (count-zero t n (λ k l. h k (omega arith)), h n (omega arith))

pub count-one : (t : ℕ → Bool) (n j : ℕ) → j < n → ((k : ℕ) → (k ≡ j → ⊥) → t k ≡ false) → count_below t n ≡ pick (t j) 1 0
unfolding count_below
count-one t zero j l h = absurd (omega arith)
count-one t (suc n) j l h = elim (eq-or-lt_of_le (le_of_suc-le-suc l)) [
  | inl e ↦ ap₂ (λ (c : ℕ) (b : Bool). pick b (c + 1) c) (count-zero t n (λ k g. h k (λ z. omega arith))) (ap t (sym e))
  | inr g ↦ ap (λ (b : Bool). pick b (count_below t n + 1) (count_below t n)) (h n (λ z. omega arith)) ∙ count-one t n j g h
]

pub sum-tests : (t : ℕ → Bool) (n : ℕ) → sum_below n (λ k. pick (t k) 1 0) ≡ count_below t n
unfolding sum_below count_below
sum-tests t zero = refl
sum-tests t (suc n) = go (t n) (sum-tests t n)
  where
    go : (b : Bool) → sum_below n (λ k. pick (t k) 1 0) ≡ count_below t n → sum_below n (λ k. pick (t k) 1 0) + pick b 1 0 ≡ pick b (count_below t n + 1) (count_below t n)
    go true e = omega arith
    go false e = omega arith
