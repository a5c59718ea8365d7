-- Multiplicities for the bitwise table and the constants: each list of values is charged where it stands, as often as a
-- number, `times`, of it says. Then what these tables receive is that number.
use mathlib.Core.Bool.{Bool, true, false, ◌&&◌}
use mathlib.Core.List.{List, [], ◌++◌}
use mathlib.Core.Path.{◌≡◌, refl, sym, ap, ap₂, subst, ◌∙◌}
use Prim.Native.Nat.{ℕ, zero, suc, ◌≤◌, ◌<◌}
use native.Mathlib.Omega.{arith}
use lib.Dec.{T, eqb, eqb→eq, eqb_refl}
use lib.ListN.{get_or}
use lib.Seq.{get_or-append-add}
use Rattle.lists.specs.Tab.{word, tab, pick}
use Rattle.lists.specs.Sum.{sum_below}
use Rattle.lists.proofs.Laws.{get_d-tab}
use Rattle.lists.proofs.Sum.{sum-zero, sum-place, and_left, and_right, and_both}
use Rattle.tuple.specs.Tuple.{Tuple, receiver}
use Rattle.tuple.specs.declared.Bus.{Bus}
use Rattle.tuple.specs.declared.Bus.TheVariants.{KeccakRc}
use Rattle.tuple.specs.declared.Side.TheVariants.{Receiver}
use Rattle.bitwise.specs.Row.{bitwise_row, row_of_xyz}
use Rattle.bitwise.specs.Tuples.{kind_at, kind_bus, kind_values, mu-column}
use Rattle.bitwise.proofs.Numbers.{mu-column-at}
use Rattle.keccak_rc.specs.Row.{rc_row}
use Rattle.keccak_rc.specs.Tuples.{rc_tuple}
use Rattle.keccak_rc.specs.Found.{RcFound}
use Rattle.keccak_rc.proofs.Found.{rc-values, rc-round, rc-tuple}
use Rattle.bus_sums.specs.Sums.{share, shares, bitwise_at, bitwise_share, constant_at, constants_share}
use Rattle.bus_sums.proofs.Shares.{On, pick_some, share-none, share-is, shares-zero}
use Rattle.bus_sums.proofs.Rows.{fixed}
use Rattle.bitwise.specs.Charge.{place_row, place_kind, Placed}

pick-on : (t : Bool) (n : ℕ) → T t → pick t n 0 ≡ n
pick-on true n h = refl
pick-on false n h = absurd h

module _ (times : Bus → List ℕ → ℕ) where
  -- whether values are charged in row i, as kind k
  unfoldable pub charged_at : ℕ → ℕ → Bus → List ℕ → Bool
  charged_at i k b v = eqb i (place_row b v) && eqb k (place_kind b v)

  unfoldable pub charge_of : ℕ → ℕ → Bus → List ℕ → ℕ
  charge_of i k b v = pick (charged_at i k b v) (times b v) 0

  unfoldable pub charged : ℕ → ℕ → ℕ
  charged i k = charge_of i k (kind_bus (kind_at k)) (kind_values (bitwise_row i) (kind_at k))

  pub charged-le : (c : ℕ) → ((b : Bus) (v : List ℕ) → times b v ≤ c) → (i k : ℕ) → charged i k ≤ c
  unfolding charged charge_of
  charged-le c h i k = go (charged_at i k (kind_bus (kind_at k)) (kind_values (bitwise_row i) (kind_at k))) (h (kind_bus (kind_at k)) (kind_values (bitwise_row i) (kind_at k)))
    where
      go : (t : Bool) {n : ℕ} → n ≤ c → pick t n 0 ≤ c
      go true l = l
      go false l = omega arith

  -- the multiplicity of tuple k of row i
  column : (i k : ℕ) → k < 10 → word (bitwise_row i ++ tab 10 (charged i)) (mu-column (kind_at k)) ≡ charged i k
  unfolding bitwise_row row_of_xyz
  column i k l =
      ap (word (bitwise_row i ++ tab 10 (charged i))) (mu-column-at k l)
      ∙ get_or-append-add (bitwise_row i) (tab 10 (charged i)) k 0
      ∙ get_d-tab 10 (charged i) k 0 l

  module _ (b : Bus) (v : List ℕ) where
    -- a tuple that adds something is where v is charged, and v is charged at all
    charge-some : (i k : ℕ) → k < 10 → On Receiver b v (bitwise_at charged i k) → T (charged_at i k b v) × (1 ≤ times b v)
    unfolding bitwise_at charged charge_of
    charge-some i k l o =
        pick_some (charged_at i k b v) (times b v)
        (subst (λ (c : Bus). 1 ≤ charge_of i k c v) (sym o.bus)
        (subst (λ (u : List ℕ). 1 ≤ charge_of i k (kind_bus (kind_at k)) u) (sym (o.values ∙ fixed charged i (tab 10 (charged i)) (kind_at k)))
        (subst (λ (n : ℕ). 1 ≤ n) (column i k l) o.some)))

    at_row : (i k : ℕ) → T (charged_at i k b v) → i ≡ place_row b v
    unfolding charged_at
    at_row i k t = eqb→eq i (place_row b v) (and_left (eqb i (place_row b v)) (eqb k (place_kind b v)) t)

    at-kind : (i k : ℕ) → T (charged_at i k b v) → k ≡ place_kind b v
    unfolding charged_at
    at-kind i k t = eqb→eq k (place_kind b v) (and_right (eqb i (place_row b v)) (eqb k (place_kind b v)) t)

    at_place : T (charged_at (place_row b v) (place_kind b v) b v)
    unfolding charged_at
    at_place = and_both (eqb (place_row b v) (place_row b v)) (eqb (place_kind b v) (place_kind b v)) (eqb_refl (place_row b v)) (eqb_refl (place_kind b v))

    module _ (at : Placed b v) where
      -- at its place v adds the whole number
      whole : share Receiver b v (bitwise_at charged (place_row b v) (place_kind b v)) ≡ times b v
      unfolding bitwise_at charged charge_of
      whole =
          share-is (bitwise_at charged (place_row b v) (place_kind b v)) (receiver b (word (tab 10 (charged (place_row b v))) (place_kind b v)) v) (at.tuple (tab 10 (charged (place_row b v))))
          ∙ get_d-tab 10 (charged (place_row b v)) (place_kind b v) 0 at.kind-lt
          ∙ ap₂ (charge_of (place_row b v) (place_kind b v))
          (ap (λ (t : Tuple). t.bus) (at.tuple []))
          (sym (fixed charged (place_row b v) [] (kind_at (place_kind b v))) ∙ ap (λ (t : Tuple). t.values) (at.tuple []))
          ∙ pick-on (charged_at (place_row b v) (place_kind b v) b v) (times b v) at_place

      received-at : bitwise_share Receiver b v charged ≡ times b v
      unfolding shares
      received-at =
          sum-place 1048576 (place_row b v) (λ r. sum_below 10 (λ i. share Receiver b v (bitwise_at charged r i))) at.row_lt
          (λ r l n. sum-zero 10 (λ i. share Receiver b v (bitwise_at charged r i)) (λ i m. share-none Receiver b v (bitwise_at charged r i) (λ o. n (at_row r i (charge-some r i m o).0))))
          ∙ sum-place 10 (place_kind b v) (λ i. share Receiver b v (bitwise_at charged (place_row b v) i)) at.kind-lt
          (λ i m n. share-none Receiver b v (bitwise_at charged (place_row b v) i) (λ o. n (at-kind (place_row b v) i (charge-some (place_row b v) i m o).0)))
          ∙ whole

    pub charged-received : (1 ≤ times b v → Placed b v) → bitwise_share Receiver b v charged ≡ times b v
    charged-received found = go (times b v) refl
      where
        go : (n : ℕ) → times b v ≡ n → bitwise_share Receiver b v charged ≡ times b v
        go zero e = shares-zero Receiver b v 1048576 10 (bitwise_at charged) (λ r i lr li o. let c = (charge-some r i li o).1 in omega (arith, c, e)) ∙ sym e
        go (suc n) e = received-at (found (omega arith))

  -- ---- the constants
  unfoldable pub charged_constant : ℕ → ℕ
  charged_constant r = times KeccakRc (rc_row r)

  module _ (v : List ℕ) where
    constant-at : (r j : ℕ) → constant_at charged_constant r j ≡ receiver KeccakRc (charged_constant r) (rc_row r)
    unfolding constant_at rc_tuple
    constant-at r j = rc-tuple r (charged_constant r)

    constant-some : (r j : ℕ) → On Receiver KeccakRc v (constant_at charged_constant r j) → (v ≡ rc_row r) × (1 ≤ times KeccakRc v)
    unfolding charged_constant
    constant-some r j o =
        let e : v ≡ rc_row r = o.values ∙ ap (λ (t : Tuple). t.values) (constant-at r j) in
        (e, subst (λ (u : List ℕ). 1 ≤ times KeccakRc u) (sym e) (subst (λ (n : ℕ). 1 ≤ n) (ap (λ (t : Tuple). t.multiplicity) (constant-at r j)) o.some))

    constant-in : RcFound v → constants_share Receiver KeccakRc v charged_constant ≡ times KeccakRc v
    unfolding shares sum_below charged_constant
    constant-in f =
        sum-place 32 f.index (λ r. sum_below 1 (λ j. share Receiver KeccakRc v (constant_at charged_constant r j))) f.index-lt
        (λ r l n. sum-zero 1 (λ j. share Receiver KeccakRc v (constant_at charged_constant r j))
        (λ j m. share-none Receiver KeccakRc v (constant_at charged_constant r j) (λ o. n (sym (rc-round r) ∙ ap (λ (u : List ℕ). get_or u 0 0) (sym (constant-some r j o).0 ∙ sym is) ∙ rc-round f.index))))
        ∙ sum-place 1 0 (λ j. share Receiver KeccakRc v (constant_at charged_constant f.index j)) (omega arith) (λ j m n. absurd (n (omega arith)))
        ∙ ap (λ (u : List ℕ). share Receiver KeccakRc u (constant_at charged_constant f.index 0)) (sym is)
        ∙ share-is (constant_at charged_constant f.index 0) (receiver KeccakRc (charged_constant f.index) (rc_row f.index)) (constant-at f.index 0)
        ∙ ap (times KeccakRc) is
      where
        is : rc_row f.index ≡ v
        is = sym (rc-values f.index 0) ∙ f.values

    pub constant-received : (1 ≤ times KeccakRc v → RcFound v) → constants_share Receiver KeccakRc v charged_constant ≡ times KeccakRc v
    constant-received found = go (times KeccakRc v) refl
      where
        go : (n : ℕ) → times KeccakRc v ≡ n → constants_share Receiver KeccakRc v charged_constant ≡ times KeccakRc v
        go zero e = shares-zero Receiver KeccakRc v 32 1 (constant_at charged_constant) (λ r i lr li o. let c = (constant-some r i o).1 in omega (arith, c, e)) ∙ sym e
        go (suc n) e = constant-in (found (omega arith))
