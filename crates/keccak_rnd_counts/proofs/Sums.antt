-- Sums in blocks, and over two indices.
use mathlib.Core.Path.{◌≡◌, sym, ap, ap₂, ◌∙◌}
use Prim.Native.Nat.{ℕ, zero, suc, ◌+◌, ◌*◌, ◌/◌, ◌%◌}
use native.Mathlib.Nat.{suc-mul}
use native.Mathlib.Omega.{arith}
use lib.Arith.{digits_div, digits_mod}
use Rattle.lists.specs.Tab.{followed_by}
use Rattle.lists.specs.Sum.{sum_below}
use Rattle.lists.proofs.Sum.{sum_same, sum-const, sum-add, sum_then}
use Rattle.keccak.specs.Columns.{by_xyb}

pub sum-plus : (n : ℕ) (f g : ℕ → ℕ) → sum_below n (λ i. f i + g i) ≡ sum_below n f + sum_below n g
unfolding sum_below
sum-plus zero f g = omega arith
sum-plus (suc n) f g = ap (λ (m : ℕ). m + (f n + g n)) (sum-plus n f g) ∙ omega arith

-- a sum over n entries of f and then m of g, where both are known
pub sum-piece : {A : Type 0} (h : A → ℕ) (n m a r : ℕ) (f g : ℕ → A) → sum_below n (λ i. h (f i)) ≡ a → sum_below m (λ i. h (g i)) ≡ r → sum_below (n + m) (λ i. h (followed_by n f g i)) ≡ a + r
sum-piece h n m a r f g e q = sum_then h n m f g ∙ ap₂ ◌+◌ e q

-- n blocks of m
pub sum-blocks : (n m : ℕ) (f : ℕ → ℕ → ℕ) → sum_below (n * m) (λ i. f (i / m) (i % m)) ≡ sum_below n (λ x. sum_below m (f x))
unfolding sum_below
sum-blocks zero m f = let e : 0 * m ≡ 0 = omega arith in ap (λ (k : ℕ). sum_below k (λ i. f (i / m) (i % m))) e
sum-blocks (suc n) m f =
    ap (λ (k : ℕ). sum_below k (λ i. f (i / m) (i % m))) (suc-mul n m)
    ∙ sum-add (n * m) m (λ i. f (i / m) (i % m))
    ∙ ap₂ ◌+◌ (sum-blocks n m f) (sum_same m (λ k. f ((n * m + k) / m) ((n * m + k) % m)) (f n) (λ k l. ap₂ f (digits_div n l) (digits_mod n l)))

pub sum-swap : (n m : ℕ) (f : ℕ → ℕ → ℕ) → sum_below n (λ x. sum_below m (f x)) ≡ sum_below m (λ y. sum_below n (λ x. f x y))
unfolding sum_below
sum-swap zero m f = sym (sum-const m 0 ∙ omega arith)
sum-swap (suc n) m f = ap (λ (k : ℕ). k + sum_below m (f n)) (sum-swap n m f) ∙ sym (sum-plus m (λ y. sum_below n (λ x. f x y)) (f n))

-- 25 lanes, x outermost or y outermost
pub sum-grid : (f : ℕ → ℕ → ℕ) → sum_below 25 (λ l. f (l / 5) (l % 5)) ≡ sum_below 25 (λ i. f (i % 5) (i / 5))
sum-grid f = sum-blocks 5 5 f ∙ sum-swap 5 5 f ∙ sym (sum-blocks 5 5 (λ y x. f x y))

-- a list by x, y and byte, lane by lane
pub sum-xyb : (f : ℕ → ℕ → ℕ → ℕ) → sum_below 200 (λ i. by_xyb f i) ≡ sum_below 25 (λ i. sum_below 8 (f (i % 5) (i / 5)))
sum-xyb f =
    sum_same 200 (λ i. by_xyb f i) (λ i. f (i / 8 / 5) (i / 8 % 5) (i % 8)) (λ i l. ap (λ (x : ℕ). f x (i / 8 % 5) (i % 8)) (forty i))
    ∙ sum-blocks 25 8 (λ l b. f (l / 5) (l % 5) b)
    ∙ sum-grid (λ x y. sum_below 8 (f x y))
  where
    forty : (i : ℕ) → i / 40 ≡ i / 8 / 5
    forty i = omega arith

-- five columns of three stages
pub sum-stages : (f : ℕ → ℕ → ℕ → ℕ) → sum_below 120 (λ i. f (i / 24) (i / 8 % 3) (i % 8)) ≡ sum_below 5 (λ x. sum_below 3 (λ k. sum_below 8 (f x k)))
sum-stages f =
    sum_same 120 (λ i. f (i / 24) (i / 8 % 3) (i % 8)) (λ i. f (i / 8 / 3) (i / 8 % 3) (i % 8)) (λ i l. ap (λ (x : ℕ). f x (i / 8 % 3) (i % 8)) (twentyfour i))
    ∙ sum-blocks 15 8 (λ l b. f (l / 3) (l % 3) b)
    ∙ sum-blocks 5 3 (λ x k. sum_below 8 (f x k))
  where
    twentyfour : (i : ℕ) → i / 24 ≡ i / 8 / 3
    twentyfour i = omega arith
