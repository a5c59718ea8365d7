-- Laws of what tuples and tables add to the sums of a bus.
--     share-le, share-is       a tuple adds at most what it has on that bus; for its own values, its multiplicity
--     share-on, share-none     a tuple that adds something is on that side of that bus, with those values
--     shares-find, shares-own  a table that adds something has a tuple that does; and adds at least what a tuple has
--     shares-line, no_line     a table adds at most what its rows have on that bus; where they have nothing, nothing
use mathlib.Core.Bool.{Bool, true, false, ◌&&◌}
use mathlib.Core.List.{List}
use mathlib.Core.Path.{◌≡◌, refl, sym, ap, ◌∙◌}
use Prim.Native.Nat.{ℕ, zero, suc, ◌*◌, ◌%◌, ◌≤◌, ◌<◌}
use native.Mathlib.Omega.{arith}
use lib.Dec.{T}
use Rattle.lists.specs.Tab.{pick}
use Rattle.lists.specs.Sum.{sum_below}
use Rattle.lists.specs.Select.{words_test}
use Rattle.lists.proofs.Count.{sum-find}
use Rattle.lists.proofs.Sum.{sum-const, sum-hit, sum-le, and_left, and_right}
use Rattle.lists.proofs.Select.{words-sound, words_same_lem}
use Rattle.lists.proofs.Tests.{true-not-false}
use Rattle.lists.proofs.Then.{T_true}
use Rattle.field.specs.Field.{p}
use Rattle.tuple.specs.Tuple.{Tuple, on_bus, bus_sum, same_side, same_bus}
use Rattle.tuple.specs.declared.Bus.{Bus}
use Rattle.tuple.specs.declared.Side.{Side}
use Rattle.tuple.specs.declared.Side.TheVariants.{Sender, Receiver}
use Rattle.tuple.proofs.Buses.{bus-decides}
use Rattle.bus_sums.specs.Sums.{share, shares}

-- a number that is not 0 mod p is not 0
pub not-zero : (n : ℕ) → 1 ≤ n % p → 1 ≤ n
not-zero zero l = absurd (omega arith)
not-zero (suc n) l = omega arith

-- ---- a tuple
pub pick-le : (t : Bool) (m : ℕ) → pick t m 0 ≤ m
pick-le true m = omega arith
pick-le false m = omega arith

pub pick_some : (t : Bool) (m : ℕ) → 1 ≤ pick t m 0 → T t × (1 ≤ m)
pick_some true m h = (tt, h)
pick_some false m h = absurd (omega arith)

pub same-side : (a b : Side) → same_side a b ≡ true → a ≡ b
same-side Sender Sender e = refl
same-side Receiver Receiver e = refl
same-side Sender Receiver e = absurd (true-not-false (sym e))
same-side Receiver Sender e = absurd (true-not-false (sym e))

side_same : (a : Side) → same_side a a ≡ true
side_same Sender = refl
side_same Receiver = refl

pub record On (s : Side) (b : Bus) (v : List ℕ) (t : Tuple) : Type 0 where
  pub side : s ≡ t.side
  pub bus : b ≡ t.bus
  pub values : v ≡ t.values
  pub some : 1 ≤ t.multiplicity

module _ (s : Side) (b : Bus) (v : List ℕ) where
  pub share-on : (t : Tuple) → 1 ≤ share s b v t → On s b v t
  unfolding share
  share-on t h =
      let x = same_side s t.side in
      let y = same_bus b t.bus in
      let a = pick_some (words_test v t.values) (on_bus s b t) h in
      let c = pick_some (x && y) t.multiplicity a.1 in
      record {
        side = same-side s t.side (T_true x (and_left x y c.0));
        bus = (bus-decides b t.bus).to (and_right x y c.0);
        values = words-sound v t.values a.0;
        some = c.1;
      }

  pub share-le : (t : Tuple) → share s b v t ≤ on_bus s b t
  unfolding share
  share-le t = pick-le (words_test v t.values) (on_bus s b t)

  pub share-most : (t : Tuple) → share s b v t ≤ t.multiplicity
  share-most t = let a = share-le t in omega (arith, a, pick-le (same_side s t.side && same_bus b t.bus) t.multiplicity)

  -- where it is on another bus or side, or has other values: nothing
  pub share-none : (t : Tuple) → (On s b v t → ⊥) → share s b v t ≡ 0
  share-none t n = go (share s b v t) refl
    where
      go : (k : ℕ) → share s b v t ≡ k → share s b v t ≡ 0
      go zero e = e
      go (suc k) e = absurd (n (share-on t (omega arith)))

pub share-self : (t : Tuple) → share t.side t.bus t.values t ≡ t.multiplicity
unfolding share
share-self t =
    ap (λ (x : Bool). pick x (on_bus t.side t.bus t) 0) (T_true (words_test t.values t.values) (words_same_lem t.values))
    ∙ ap (λ (x : Bool). pick (x && same_bus t.bus t.bus) t.multiplicity 0) (side_same t.side)
    ∙ ap (λ (x : Bool). pick x t.multiplicity 0) (T_true (same_bus t.bus t.bus) ((bus-decides t.bus t.bus).from refl))

pub share-is : (t u : Tuple) → t ≡ u → share u.side u.bus u.values t ≡ u.multiplicity
share-is t u e = ap (share u.side u.bus u.values) e ∙ share-self u

-- ---- a table
module _ (s : Side) (b : Bus) (v : List ℕ) (n m : ℕ) (t : ℕ → ℕ → Tuple) where
  pub shares-find : 1 ≤ shares s b v n m t → (r i : ℕ) × (r < n) × (i < m) × On s b v (t r i)
  unfolding shares
  shares-find h =
      let f = sum-find (λ r. sum_below m (λ i. share s b v (t r i))) n h in
      let g = sum-find (λ i. share s b v (t f.0 i)) m f.2 in
      (f.0, g.0, f.1, g.1, share-on s b v (t f.0 g.0) g.2)

  pub shares-hit : (r i : ℕ) → r < n → i < m → share s b v (t r i) ≤ shares s b v n m t
  unfolding shares
  shares-hit r i hr hi =
      let a = sum-hit m (λ i. share s b v (t r i)) i hi in
      let c = sum-hit n (λ r. sum_below m (λ i. share s b v (t r i))) r hr in
      omega (arith, a, c)

  -- for its own values
  pub shares-own : (r i : ℕ) → r < n → i < m → (t r i).side ≡ s → (t r i).bus ≡ b → (t r i).values ≡ v → (t r i).multiplicity ≤ shares s b v n m t
  shares-own r i hr hi es eb ev =
      let c : share s b v (t r i) ≡ (t r i).multiplicity =
      ap (λ (x : Side). share x b v (t r i)) (sym es)
      ∙ ap (λ (x : Bus). share (t r i).side x v (t r i)) (sym eb)
      ∙ ap (λ (x : List ℕ). share (t r i).side (t r i).bus x (t r i)) (sym ev) ∙ share-self (t r i) in
      omega (arith, shares-hit r i hr hi, c)

  -- by what the tuples of each row have on that side of that bus
  pub shares-line : (c : ℕ) → ((r : ℕ) → r < n → bus_sum s b m (t r) ≤ c) → shares s b v n m t ≤ n * c
  unfolding shares bus_sum
  shares-line c h =
      let rows : (r : ℕ) → r < n → sum_below m (λ i. share s b v (t r i)) ≤ c =
      λ r l. omega (arith, sum-le m (λ i. share s b v (t r i)) (λ i. on_bus s b (t r i)) (λ i g. share-le s b v (t r i)), h r l) in
      omega (arith, sum-le n (λ r. sum_below m (λ i. share s b v (t r i))) (λ r. c) rows, sum-const n c)

  pub no_line : ((r : ℕ) → r < n → bus_sum s b m (t r) ≡ 0) → shares s b v n m t ≡ 0
  no_line h = let a = shares-line 0 (λ r l. omega (arith, h r l)) in omega (arith, a)

  pub shares-zero : ((r i : ℕ) → r < n → i < m → On s b v (t r i) → ⊥) → shares s b v n m t ≡ 0
  shares-zero h = go (shares s b v n m t) refl
    where
      go : (k : ℕ) → shares s b v n m t ≡ k → shares s b v n m t ≡ 0
      go zero e = e
      go (suc k) e = let f = shares-find (omega arith) in absurd (h f.0 f.1 f.2 f.3 f.4)
