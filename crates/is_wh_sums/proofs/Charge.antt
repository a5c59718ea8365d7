-- What is charged is what is sent: the counter of given values on a bus grows by exactly how often a table sends them there. Of any
-- rows and tuples that are found where they are counted, so of every table that passes its lookups in the bitwise table.
use mathlib.Core.Bool.{Bool, true, false, ◌&&◌}
use mathlib.Core.List.{List, [], ◌++◌}
use mathlib.Core.Path.{◌≡◌, refl, sym, ap, ap₂, subst, ◌∙◌}
use Prim.Native.Nat.{ℕ, ◌+◌, ◌<◌}
use native.Mathlib.Omega.{arith}
use borrow.Author.Tests.{eqb-true, eq-eqb}
use lib.Dec.{eqb}
use Rattle.lists.specs.Tab.{pick}
use Rattle.lists.specs.Sum.{sum_below}
use Rattle.lists.proofs.Sum.{sum_same}
use Rattle.lists.proofs.Then.{by_le}
use Rattle.lists.proofs.Tests.{true-not-false, and-true, true-and}
use Rattle.tuple.specs.Tuple.{Tuple, same_side}
use Rattle.tuple.specs.declared.Bus.{Bus}
use Rattle.tuple.specs.declared.Side.{Side}
use Rattle.tuple.specs.declared.Side.TheVariants.{Sender}
use Rattle.bitwise.specs.Row.{bitwise_row}
use Rattle.bitwise.specs.Tuples.{bitwise_tuple}
use Rattle.bitwise.specs.Charge.{place_row, place_kind, place_counter, found, counted, falls_on, charged_row, charged, Placed}
use Rattle.bitwise.proofs.Charge.{found-placed, found-counted, Sound}
use Rattle.bus_sums.specs.Sums.{share, shares}
use Rattle.bus_sums.proofs.Shares.{On, same-side, share-none, share-self}

-- two tuples on one counter have the same values on the same bus
module _ (b d : Bus) (v u : List ℕ) (hv : found b v ≡ true) (hu : found d u ≡ true) (e : place_counter b v ≡ place_counter d u) where
  here : Placed b v
  here = found-placed b v hv

  there : Placed d u
  there = found-placed d u hu

  same_row : place_row b v ≡ place_row d u
  unfolding place_counter
  same_row = omega (arith, e, here.kind-lt, there.kind-lt)

  same_kind : place_kind b v ≡ place_kind d u
  unfolding place_counter
  same_kind = omega (arith, e, here.kind-lt, there.kind-lt)

  same-tuple : bitwise_tuple (bitwise_row (place_row b v) ++ []) (place_kind b v) ≡ bitwise_tuple (bitwise_row (place_row d u) ++ []) (place_kind d u)
  same-tuple = ap₂ (λ (r k : ℕ). bitwise_tuple (bitwise_row r ++ []) k) same_row same_kind

  pub same-bus : b ≡ d
  same-bus = ap (λ (t : Tuple). t.bus) (sym (here.tuple []) ∙ same-tuple ∙ there.tuple [])

  pub same-values : v ≡ u
  same-values = ap (λ (t : Tuple). t.values) (sym (here.tuple []) ∙ same-tuple ∙ there.tuple [])

module _ (b : Bus) (v : List ℕ) (hv : found b v ≡ true) where
  -- a tuple that falls on the counter of v is sent on b, with the values v
  falls-sent : (t : Tuple) → Sound t → falls_on t (place_counter b v) ≡ true → (t.side ≡ Sender) × (b ≡ t.bus) × (v ≡ t.values)
  unfolding falls_on
  falls-sent t ok f =
      let x = counted t.bus t.values in
      let y = eqb (place_counter b v) (place_counter t.bus t.values) in
      let a = and-true (same_side Sender t.side) (x && y) f in
      let c = and-true x y a.1 in
      let e = eqb-true (place_counter b v) (place_counter t.bus t.values) c.1 in
      (sym (same-side Sender t.side a.0), same-bus b t.bus v t.values hv (ok c.0) e, same-values b t.bus v t.values hv (ok c.0) e)

  -- and one that is sent there falls on it
  sent-falls : (t : Tuple) → On Sender b v t → falls_on t (place_counter b v) ≡ true
  unfolding falls_on
  sent-falls t o =
      let x = counted t.bus t.values in
      let y = eqb (place_counter b v) (place_counter t.bus t.values) in
      true-and (same_side Sender t.side) (x && y) (ap (same_side Sender) (sym o.side))
      (true-and x y (sym (ap₂ counted o.bus o.values) ∙ found-counted b v hv) (eq-eqb (place_counter b v) (place_counter t.bus t.values) (ap₂ place_counter o.bus o.values)))

  tuple-sent : (t : Tuple) → ((t.multiplicity ≡ 0 → ⊥) → Sound t) → pick (falls_on t (place_counter b v)) t.multiplicity 0 ≡ share Sender b v t
  tuple-sent t ok =
      by_le 1 t.multiplicity (λ l. go (ok (λ z. omega (arith, l, z))) (falls_on t (place_counter b v)) refl)
      (λ l.
      let z : t.multiplicity ≡ 0 = omega arith in
      ap (λ (m : ℕ). pick (falls_on t (place_counter b v)) m 0) z ∙ pick-zero (falls_on t (place_counter b v)) ∙ sym (share-none Sender b v t (λ o. omega (arith, o.some, z))))
    where
      pick-zero : (f : Bool) → pick {A = ℕ} f 0 0 ≡ 0
      pick-zero true = refl
      pick-zero false = refl

      go : Sound t → (f : Bool) → falls_on t (place_counter b v) ≡ f → pick f t.multiplicity 0 ≡ share Sender b v t
      go sound true e =
          let h = falls-sent t sound e in
          sym (ap₂ (λ (c : Bus) (u : List ℕ). share Sender c u t) h.1 h.2 ∙ subst (λ (s : Side). share s t.bus t.values t ≡ t.multiplicity) h.0 (share-self t))
      go sound false e = sym (share-none Sender b v t (λ o. true-not-false (sym (sent-falls t o) ∙ e)))

  -- what n rows of m tuples add to the counter of v is how often they send v
  pub charged-is-sent : (n m : ℕ) (t : ℕ → ℕ → Tuple) → ((r i : ℕ) → r < n → i < m → ((t r i).multiplicity ≡ 0 → ⊥) → Sound (t r i))
      → charged n m t (place_counter b v) ≡ shares Sender b v n m t
  unfolding charged charged_row shares
  charged-is-sent n m t ok =
      sum_same n (λ r. sum_below m (λ i. pick (falls_on (t r i) (place_counter b v)) (t r i).multiplicity 0)) (λ r. sum_below m (λ i. share Sender b v (t r i)))
      (λ r l. sum_same m (λ i. pick (falls_on (t r i) (place_counter b v)) (t r i).multiplicity 0) (λ i. share Sender b v (t r i)) (λ i k. tuple-sent (t r i) (ok r i l k)))
