-- Counts that are added up: a sum over more of them is no less, and what is left decides.
--     sum-rises      the sum of the first i is at most that of n, where i ≤ n
--     sum-next       one more
--     Left           after i counts so much is left of the rows
--     left-none, left-more, left-over, left-all   where the loop begins, a turn, a count that is too much, and the end
use mathlib.Core.Path.{◌≡◌, refl, sym, ap, ◌∙◌}
use mathlib.Core.Bool.{Bool, true, false}
use Prim.Native.Nat.{ℕ, ◌+◌, ◌-◌, ◌≤◌, ◌<◌}
use native.Mathlib.Nat.{zero-add}
use native.Mathlib.Numerals.{add-one}
use native.Mathlib.Omega.{arith}
use lib.Dec.{eqb}
use borrow.Author.Tests.{eq-eqb, ne_eqb, eqb-true, eqb-false}
use Rattle.lists.specs.Sum.{sum_below}
use Rattle.lists.proofs.Sum.{sum-add}

module _ (f : ℕ → ℕ) where
  pub sum-next : (i : ℕ) → sum_below (i + 1) f ≡ sum_below i f + f i
  unfolding sum_below
  sum-next i = ap (λ (m : ℕ). sum_below m f) (add-one i)

  pub sum-rises : (i n : ℕ) → i ≤ n → sum_below i f ≤ sum_below n f
  sum-rises i n l =
      let e : i + (n - i) ≡ n = omega arith in
      omega (arith, sum-add i (n - i) f, ap (λ (m : ℕ). sum_below m f) e)

-- after i of n counts `left` is left of the rows
pub record Left (f : ℕ → ℕ) (n rows left i : ℕ) : Type 0 where
  pub bound : i ≤ n
  pub is : sum_below i f + left ≡ rows

module _ {f : ℕ → ℕ} {n rows : ℕ} where
  pub left-none : Left f n rows rows 0
  unfolding sum_below
  left-none = record { bound = omega arith; is = zero-add rows }

  module _ {left i : ℕ} (h : Left f n rows left i) where
    pub left-more : i < n → f i ≤ left → Left f n rows (left - f i) (i + 1)
    left-more l g = record { bound = omega (arith, l); is = omega (arith, h.is, sum-next f i, g) }

    -- a count above what is left: the sum is more than the rows
    pub left_over : i < n → left < f i → eqb (sum_below n f) rows ≡ false
    left_over l g = ne_eqb (sum_below n f) rows (λ e. omega (arith, e, h.is, sum-next f i, sum-rises f (i + 1) n (omega (arith, l)), g))

    pub left-all : n ≤ i → eqb left 0 ≡ eqb (sum_below n f) rows
    left-all l = go (eqb left 0) refl
      where
        same : sum_below i f ≡ sum_below n f
        same = ap (λ (m : ℕ). sum_below m f) (omega (arith, h.bound, l))

        go : (b : Bool) → eqb left 0 ≡ b → eqb left 0 ≡ eqb (sum_below n f) rows
        go true e = e ∙ sym (eq-eqb (sum_below n f) rows (omega (arith, eqb-true left 0 e, h.is, same)))
        go false e = e ∙ sym (ne_eqb (sum_below n f) rows (λ q. eqb-false left 0 e (omega (arith, q, h.is, same))))
