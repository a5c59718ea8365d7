-- The bytes of π by where their parts stand, 255 less each of them, and all terms of a row stored one group behind the other.
use mathlib.Core.Path.{◌≡◌, refl, sym, ap, ap₂, subst, ◌∙◌}
use mathlib.Core.List.{List, [], ◌∷◌}
use Prim.Native.Nat.{ℕ, suc, ◌+◌, ◌-◌, ◌*◌, ◌/◌, ◌%◌, ◌≤◌, ◌<◌}
use native.Mathlib.Omega.{arith}
use lib.ListN.{length, set}
use lib.Seq.{sets, get_or-set_other}
use Rattle.lists.specs.Tab.{tab, followed_by, word}
use Rattle.lists.proofs.Laws.{Filled, tab-same, sets_then, stored_at, stored-long}
use Rattle.lists.proofs.Then.{then-lt, then-ge, then-past, at-two, at-three}
use Rattle.field.specs.Field.{p, fadd, fsub}
use Rattle.field.specs.Elements.{ElementRow}
use Rattle.field.proofs.Field.{mod-p, fsub-sum}
use Rattle.keccak.specs.Columns.{by_xyb}
use Rattle.keccak_rnd.specs.Columns.{NUM-COLUMNS}
use Rattle.keccak_rnd.specs.Tuples.{rotated_c_at, pi_at, not_pi_at}
use Rattle.keccak_rnd_terms.specs.declared.Source.{Source}
use Rattle.keccak_rnd_terms.specs.Terms.{term, TermsOf, SourceOf, sum_of}

-- words before those that are stored
word-before : (l vs : List ℕ) (at k : ℕ) → k < at → word (sets l at vs) k ≡ word l k
word-before l [] at k h = refl
word-before l (v ∷ vs) at k h = word-before (set l at v) vs (suc at) k (omega arith) ∙ get_or-set_other l at k v 0 (λ e. omega (arith, e))

pub read-before : {l : List ℕ} {at n : ℕ} {f : ℕ → ℕ} {out : List ℕ} {i k : ℕ} → Filled l at n f out i → k < at → word out k ≡ word l k
read-before {l} {at} {f = f} {i = i} {k} h b = ap (λ (r : List ℕ). word r k) h.is ∙ word-before l (tab i f) at k b

pub below : {v w : ℕ} → v ≡ w → w < p → v < p
below e h = subst (λ (n : ℕ). n < p) (sym e) h

-- lane l of a group of 25 lanes, x outermost
pub xyb : {A : Type 0} (f : ℕ → ℕ → ℕ → A) (l z : ℕ) → z < 8 → by_xyb f (8 * l + z) ≡ f (l / 5) (l % 5) z
xyb f l z b = at-three f (part l z b) (mid l z b) (low l z b)
  where
    part : (l z : ℕ) → z < 8 → (8 * l + z) / 40 ≡ l / 5
    part l z b = omega arith

    mid : (l z : ℕ) → z < 8 → (8 * l + z) / 8 % 5 ≡ l % 5
    mid l z b = omega arith

    low : (l z : ℕ) → z < 8 → (8 * l + z) % 8 ≡ z
    low l z b = omega arith

-- ---- π by its parts
module _ {x y : ℕ} {s : Source} (h : SourceOf x y s) where
  pub source-sum : (row : List ℕ) (z : ℕ) → sum_of row s z ≡ pi_at row x y z
  unfolding sum_of
  source-sum row z = λ i. fadd (word row (h.left_is i + (z + (8 - h.moved-is i)) % 8)) (word row (h.right_is i + (z + (14 - h.moved-is i)) % 8))

  pub left-within : x < 5 → s.left + 8 ≤ NUM-COLUMNS
  left-within b = omega (arith, h.left_is)

  pub right-within : x < 5 → s.right + 8 ≤ NUM-COLUMNS
  right-within b = omega (arith, h.right_is)

  pub moved-within : s.moved ≤ 8
  moved-within = omega (arith, h.moved-is)

module _ (row : List ℕ) where
  pub pi-below : (x y z : ℕ) → pi_at row x y z < p
  pi-below x y z = mod-p _

  -- a lane of π
  pub pi-lane : (l : ℕ) {s : Source} → SourceOf (l / 5) (l % 5) s → (z : ℕ) → z < 8 → by_xyb (pi_at row) (8 * l + z) ≡ sum_of row s z
  pi-lane l h z b = xyb (pi_at row) l z b ∙ sym (source-sum h row z)

  pub not-pi : ElementRow NUM-COLUMNS row → (x y z : ℕ) → x < 5 → fsub 255 (pi_at row x y z) ≡ not_pi_at row x y z
  not-pi ok x y z h = sym (fsub-sum 255 _ _ (ok.below _ (omega arith)) (ok.below _ (omega arith)))

  -- ---- one group behind the other
  module _ (l : List ℕ) {a b : List ℕ} (room : 440 ≤ length l) (e : a ≡ sets l 0 (tab 40 (λ k. rotated_c_at row (k / 8) (k % 8)))) (q : b ≡ sets a 40 (tab 200 (by_xyb (pi_at row)))) where
    pub pi-word : (k : ℕ) → k < 200 → word b (40 + k) ≡ by_xyb (pi_at row) k
    pi-word k h =
        stored_at l b (followed_by 40 (λ k. rotated_c_at row (k / 8) (k % 8)) (by_xyb (pi_at row))) 240 (40 + k) (omega arith)
        (q ∙ ap (λ (r : List ℕ). sets r 40 (tab 200 (by_xyb (pi_at row)))) e ∙ sets_then l 0 40 200 (λ k. rotated_c_at row (k / 8) (k % 8)) (by_xyb (pi_at row)))
        (omega arith)
        ∙ then-ge 40 k (λ k. rotated_c_at row (k / 8) (k % 8)) (by_xyb (pi_at row))

    pub terms-stored : {c : List ℕ} → ElementRow NUM-COLUMNS row → c ≡ sets b 240 (tab 200 (λ k. fsub 255 (word b (40 + k)))) → c ≡ sets l 0 (tab 440 (term row))
    unfolding term
    terms-stored ok r =
        r
        ∙ ap (sets b 240) (tab-same 200 (λ k. fsub 255 (word b (40 + k))) (by_xyb (not_pi_at row)) (λ k h. ap (fsub 255) (pi-word k h) ∙ not-pi ok (k / 40) (k / 8 % 5) (k % 8) (omega arith)))
        ∙ ap (λ (v : List ℕ). sets v 240 (tab 200 (by_xyb (not_pi_at row)))) q
        ∙ sets_then a 40 200 200 (by_xyb (pi_at row)) (by_xyb (not_pi_at row))
        ∙ ap (λ (v : List ℕ). sets v 40 (tab 400 (followed_by 200 (by_xyb (pi_at row)) (by_xyb (not_pi_at row))))) e
        ∙ sets_then l 0 40 400 (λ k. rotated_c_at row (k / 8) (k % 8)) (followed_by 200 (by_xyb (pi_at row)) (by_xyb (not_pi_at row)))

-- ---- what is read of them
pub terms-of : (row l vs : List ℕ) → 440 ≤ length l → vs ≡ sets l 0 (tab 440 (term row)) → TermsOf row vs
terms-of row l vs h e = record { long = stored-long l vs (tab 440 (term row)) 440 h e; is = λ k b. stored_at l vs (term row) 440 k h e b }

module _ (row : List ℕ) where
  -- by their numbers
  pub at-rotated : (k : ℕ) → k < 40 → term row k ≡ rotated_c_at row (k / 8) (k % 8)
  unfolding term
  at-rotated k h = then-lt 40 k _ _ h

  pub at-pi : (k : ℕ) → 40 ≤ k → k < 240 → term row k ≡ by_xyb (pi_at row) (k - 40)
  unfolding term
  at-pi k l h =
      let b : k - 40 < 200 = omega arith in
      then-past 40 k _ _ l ∙ then-lt 200 (k - 40) _ _ b

  pub at-not-pi : (k : ℕ) → 240 ≤ k → term row k ≡ by_xyb (not_pi_at row) (k - 240)
  unfolding term
  at-not-pi k l =
      let a : 40 ≤ k = omega arith in
      let b : 200 ≤ k - 40 = omega arith in
      let e : k - 40 - 200 ≡ k - 240 = omega arith in
      then-past 40 k _ _ a ∙ then-past 200 (k - 40) _ _ b ∙ ap (by_xyb (not_pi_at row)) e

  -- by their lanes
  pub rotated-term : (x z : ℕ) → x < 5 → z < 8 → term row (8 * x + z) ≡ rotated_c_at row x z
  rotated-term x z hx hz = at-rotated (8 * x + z) (omega arith) ∙ at-two (rotated_c_at row) (part x z hz) (low x z hz)
    where
      part : (x z : ℕ) → z < 8 → (8 * x + z) / 8 ≡ x
      part x z b = omega arith

      low : (x z : ℕ) → z < 8 → (8 * x + z) % 8 ≡ z
      low x z b = omega arith

  lane_byte_lem : {A : Type 0} (f : ℕ → ℕ → ℕ → A) (x y z : ℕ) → y < 5 → z < 8 → by_xyb f (8 * (5 * x + y) + z) ≡ f x y z
  lane_byte_lem f x y z hy hz = xyb f (5 * x + y) z hz ∙ ap₂ (λ (a b : ℕ). f a b z) (part x y hy) (rest x y hy)
    where
      part : (x y : ℕ) → y < 5 → (5 * x + y) / 5 ≡ x
      part x y h = omega arith

      rest : (x y : ℕ) → y < 5 → (5 * x + y) % 5 ≡ y
      rest x y h = omega arith

  pub pi-term : (x y z : ℕ) → x < 5 → y < 5 → z < 8 → term row (40 + 8 * (5 * x + y) + z) ≡ pi_at row x y z
  pi-term x y z hx hy hz =
      let e : 40 + 8 * (5 * x + y) + z - 40 ≡ 8 * (5 * x + y) + z = omega arith in
      at-pi (40 + 8 * (5 * x + y) + z) (omega arith) (omega arith) ∙ ap (by_xyb (pi_at row)) e ∙ lane_byte_lem (pi_at row) x y z hy hz

  pub not-pi-term : (x y z : ℕ) → y < 5 → z < 8 → term row (240 + 8 * (5 * x + y) + z) ≡ not_pi_at row x y z
  not-pi-term x y z hy hz =
      let e : 240 + 8 * (5 * x + y) + z - 240 ≡ 8 * (5 * x + y) + z = omega arith in
      at-not-pi (240 + 8 * (5 * x + y) + z) (omega arith) ∙ ap (by_xyb (not_pi_at row)) e ∙ lane_byte_lem (not_pi_at row) x y z hy hz
