-- Laws of counts that partners need.
--     count-up        more pass below a later index
--     count-capped    where each that passes has fewer than c before it, at most c pass
--     count-place     two that pass with equally many before them are one
--     between_is      what passes from an index on, by the counts before each
--     count-given     a count with one more
--     count-fills     a test that passes only where another does, and equally often, passes wherever that does
use mathlib.Core.Path.{◌≡◌, refl, sym, ap, ◌∙◌}
use mathlib.Core.Bool.{Bool, true, false, not, ◌&&◌}
use mathlib.Core.Logic.{◌⊎◌, inl, inr}
use Prim.Native.Nat.{ℕ, zero, suc, ◌+◌, ◌-◌, ◌≤◌, ◌<◌}
use native.Mathlib.Nat.{eq-or-lt_of_le, le_of_suc-le-suc}
use native.Mathlib.Omega.{arith}
use borrow.Author.Tests.{le-leb, lt-leb, lt-ltb, le-ltb}
use lib.Dec.{leb, ltb}
use Rattle.lists.specs.Tab.{pick}
use Rattle.lists.specs.First.{count_below}
use Rattle.lists.proofs.Then.{by_le}
use Rattle.lists.proofs.Tests.{true-not-false}
use Rattle.lists.proofs.Sum.{sum-grown}
use Rattle.lists.proofs.Count.{count_add, count-before, sum-tests}
use Rattle.partners.specs.Partners.{count_between}

module _ (t : ℕ → Bool) where
  pub count-stays : (n : ℕ) → t n ≡ false → count_below t (suc n) ≡ count_below t n
  unfolding count_below
  count-stays n e = rw e

  pub count-grows : (n : ℕ) → t n ≡ true → count_below t (suc n) ≡ count_below t n + 1
  unfolding count_below
  count-grows n e = rw e

  pub count-up : (m n : ℕ) → m ≤ n → count_below t m ≤ count_below t n
  count-up m n l = let e : m + (n - m) ≡ n = omega arith in omega (arith, count_add t m (n - m), ap (count_below t) e)

  pub count-capped : (n c : ℕ) → ((k : ℕ) → k < n → t k ≡ true → count_below t k < c) → count_below t n ≤ c
  unfolding count_below
  count-capped zero c h = omega arith
  count-capped (suc n) c h = go (t n) refl (count-capped n c (λ k l. h k (omega arith)))
    where
      go : (b : Bool) → t n ≡ b → count_below t n ≤ c → pick b (count_below t n + 1) (count_below t n) ≤ c
      go true e l = omega (arith, h n (omega arith) e)
      go false e l = l

  pub count-place : (j k : ℕ) → t j ≡ true → t k ≡ true → count_below t j ≡ count_below t k → j ≡ k
  count-place j k a b e =
      by_le j k
      (λ l. by_le k j (λ g. omega arith) (λ g. absurd (omega (arith, count-before t k j g a))))
      (λ l. absurd (omega (arith, count-before t j k l b)))

  pub between_is : (from n : ℕ) → from ≤ n → count_between t from n + count_below t from ≡ count_below t n
  unfolding count_between
  between_is from n l =
      let e : from + (n - from) ≡ n = omega arith in omega (arith, count_add t from (n - from), ap (count_below t) e)

-- one more passes, at j
pub count-given : (t s : ℕ → Bool) (n j : ℕ) → j < n → t j ≡ false → s j ≡ true → ((k : ℕ) → (k ≡ j → ⊥) → s k ≡ t k) →
    count_below s n ≡ count_below t n + 1
count-given t s n j l e f h =
    sym (sum-tests s n)
    ∙ sum-grown n j 1 (λ k. pick (t k) 1 0) (λ k. pick (s k) 1 0) l
    (ap (λ (b : Bool). pick {A = ℕ} b 1 0) f ∙ sym (ap (λ (b : Bool). pick {A = ℕ} b 1 0 + 1) e))
    (λ k g d. ap (λ (b : Bool). pick {A = ℕ} b 1 0) (h k d))
    ∙ ap (λ (c : ℕ). c + 1) (sum-tests t n)

-- t passes only where s does
module _ (t s : ℕ → Bool) where
  fewer : (n : ℕ) → ((k : ℕ) → k < n → t k ≡ true → s k ≡ true) → count_below t n ≤ count_below s n
  unfolding count_below
  fewer zero h = omega arith
  fewer (suc n) h = go (t n) (s n) refl refl (fewer n (λ k l. h k (omega arith)))
    where
      go : (b c : Bool) → t n ≡ b → s n ≡ c → count_below t n ≤ count_below s n →
          pick b (count_below t n + 1) (count_below t n) ≤ pick c (count_below s n + 1) (count_below s n)
      go true true e f l = omega arith
      go true false e f l = absurd (true-not-false (sym (h n (omega arith) e) ∙ f))
      go false true e f l = omega arith
      go false false e f l = l

  pub count-fills : (n : ℕ) → ((k : ℕ) → k < n → t k ≡ true → s k ≡ true) → count_below t n ≡ count_below s n →
      (k : ℕ) → k < n → s k ≡ true → t k ≡ true
  unfolding count_below
  count-fills zero h q k l e = absurd (omega arith)
  count-fills (suc n) h q k l e =
      go (t n) (s n) refl refl q (eq-or-lt_of_le (le_of_suc-le-suc l)) (fewer n (λ i g. h i (omega arith)))
      (λ z g. count-fills n (λ i g. h i (omega arith)) z k g e)
    where
      go : (b c : Bool) → t n ≡ b → s n ≡ c → pick b (count_below t n + 1) (count_below t n) ≡ pick c (count_below s n + 1) (count_below s n) →
          (k ≡ n) ⊎ (k < n) → count_below t n ≤ count_below s n → (count_below t n ≡ count_below s n → k < n → t k ≡ true) → t k ≡ true
      go true c b f z (inl g) m back = ap t g ∙ b
      go true true b f z (inr g) m back = back (omega arith) g
      go true false b f z (inr g) m back = absurd (true-not-false (sym (h n (omega arith) b) ∙ f))
      go false true b f z g m back = absurd (omega arith)
      go false false b f z (inl g) m back = absurd (true-not-false (sym e ∙ ap s g ∙ f))
      go false false b f z (inr g) m back = back z g

-- ---- tests
pub and_same : (a b c : Bool) → (a ≡ true → b ≡ c) → (a && b) ≡ (a && c)
and_same true b c h = h refl
and_same false b c h = refl

pub ltb_next : (m n : ℕ) → (m ≡ n → ⊥) → ltb m n ≡ ltb m (n + 1)
ltb_next m n d =
    by_le n m
    (λ l. le-ltb m n l ∙ sym (le-ltb m (n + 1) (by_le m n (λ g. absurd (d (omega arith))) (λ g. omega arith))))
    (λ l. lt-ltb m n l ∙ sym (lt-ltb m (n + 1) (omega arith)))

pub leb-sums : (m n p q c d : ℕ) → p + c ≡ m → q + d ≡ n → c ≡ d → leb m n ≡ leb p q
leb-sums m n p q c d e f g =
    by_le m n (λ l. le-leb m n l ∙ sym (le-leb p q (omega arith))) (λ l. lt-leb m n l ∙ sym (lt-leb p q (omega arith)))

pub leb-not : (m n : ℕ) → leb m n ≡ not (ltb n m)
leb-not m n = by_le m n (λ l. le-leb m n l ∙ sym (ap not (le-ltb n m l))) (λ l. lt-leb m n l ∙ sym (ap not (lt-ltb n m l)))
