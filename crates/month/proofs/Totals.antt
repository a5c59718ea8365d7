-- The sums over the files: turn by turn, how large they get, used rows as operations times rounds, and used and padding rows together.
use mathlib.Core.Path.{◌≡◌, refl, sym, ap, ◌∙◌}
use mathlib.Core.List.{List}
use Prim.Native.Nat.{ℕ, zero, suc, ◌+◌, ◌-◌, ◌*◌, ◌^◌, ◌≤◌, ◌<◌}
use native.Mathlib.Nat.{le_trans, add-mul, zero-mul}
use native.Mathlib.Numerals.{add-one}
use native.Mathlib.Omega.{arith}
use lib.ListN.{length}
use Rattle.lists.specs.Tab.{word}
use Rattle.lists.specs.Sum.{sum_below}
use Rattle.lists.proofs.Sum.{sum-const, sum-le, sum_same, sum_both}
use Rattle.keccak.proofs.Height.{height-ge}
use Rattle.month.specs.Month.{used_at, total_at, operations_of, used_of, padding_of, Planned}
use Rattle.month.proofs.Heights.{used-most, total-most}

pub sum-none : (f : ℕ → ℕ) → 0 ≡ sum_below 0 f
unfolding sum_below
sum-none f = refl

pub sum_more : (i : ℕ) (f : ℕ → ℕ) {s v : ℕ} → s ≡ sum_below i f → v ≡ f i → s + v ≡ sum_below (i + 1) f
unfolding sum_below
sum_more i f e q = rw (add-one i, e, q)

pub sum-all : (i n : ℕ) (f : ℕ → ℕ) {s : ℕ} → s ≡ sum_below i f → i ≤ n → n ≤ i → s ≡ sum_below n f
sum-all i n f e l g = let q : i ≡ n = omega arith in e ∙ ap (λ (k : ℕ). sum_below k f) q

pub sum-most : (n c : ℕ) (f : ℕ → ℕ) → ((k : ℕ) → k < n → f k ≤ c) → sum_below n f ≤ n * c
sum-most n c f h = let e = sum-const n c in le_trans (sum-le n f (λ k. c) h) (omega arith)

-- ---- used rows, and all rows
sum-times : (n c : ℕ) (f : ℕ → ℕ) → sum_below n (λ k. f k * c) ≡ sum_below n f * c
unfolding sum_below
sum-times zero c f = sym (zero-mul c)
sum-times (suc n) c f = ap (λ (s : ℕ). s + f n * c) (sum-times n c f) ∙ sym (add-mul (sum_below n f) (f n) c)

module _ (nr floor : ℕ) (counts : List ℕ) where
  pub used-is : used_of nr counts ≡ operations_of counts * nr
  unfolding used_of operations_of
  used-is = sum-times (length counts) nr (word counts)

  pub used-and-padding : used_of nr counts + padding_of nr floor counts ≡ sum_below (length counts) (total_at nr floor counts)
  unfolding used_of padding_of
  used-and-padding =
      sym (sum_both (length counts) (used_at nr counts) (λ i. total_at nr floor counts i - used_at nr counts i))
      ∙ sum_same (length counts) _ _ (λ k l. whole (used_at nr counts k) (total_at nr floor counts k) (height-ge floor (used_at nr counts k)))
    where
      whole : (u t : ℕ) → u ≤ t → u + (t - u) ≡ t
      whole u t l = omega arith

  module _ (p : Planned nr floor counts) where
    pub used-sum-most : used_of nr counts ≤ length counts * 2 ^ 31
    unfolding used_of
    used-sum-most = sum-most (length counts) (2 ^ 31) (used_at nr counts) (λ k l. used-most nr floor (word counts k) p.most-rounds p.power (p.each k l))

    pub total-sum-most : sum_below (length counts) (total_at nr floor counts) ≤ length counts * 2 ^ 31
    total-sum-most = sum-most (length counts) (2 ^ 31) (total_at nr floor counts) (λ k l. total-most nr floor (word counts k) p.most-rounds p.power (p.each k l))
