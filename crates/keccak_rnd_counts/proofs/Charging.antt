-- The counters after parts that are charged one after the other.
use mathlib.Core.List.{List}
use mathlib.Core.Path.{◌≡◌, sym, ap, ap₂, subst, ◌∙◌}
use Prim.Native.Nat.{ℕ, ◌+◌, ◌%◌, ◌≤◌, ◌<◌}
use native.Mathlib.Nat.{mod-add-mod, zero-add}
use native.Mathlib.Numerals.{add-one}
use native.Mathlib.Omega.{arith}
use lib.Bits.{bit_xor}
use lib.ListN.{length, get_or}
use Rattle.lists.specs.Tab.{tab, word}
use Rattle.lists.specs.Sum.{sum_below}
use Rattle.field.specs.Field.{p}
use Rattle.field.specs.Elements.{ElementRow}
use Rattle.bitwise.specs.Columns.{NUM-COUNTERS}
use Rattle.bitwise.specs.Counters.{charge}
use Rattle.bitwise.specs.Charge.{charged_counters}
use Rattle.bitwise.proofs.Charge.{Added, added_none, added-same, added-one, added-below, added-all, charged-added, charged-elements}
use Rattle.fips202.specs.Lanes.{parity_l, theta_dl, rho_pi_l, chi_l}
use Rattle.fips202.specs.Tables.{round_constant}
use Rattle.keccak_rnd_counts.specs.Lanes.{XOR, one, parts, both, lane_adds, column_adds, turn_adds, theta_adds, rho_adds, chi_adds, front_adds, rest_adds}

-- one counter
pub one-charged : {C C' : List ℕ} (at : ℕ) → ElementRow NUM-COUNTERS C → at < NUM-COUNTERS → C' ≡ charge C at 1 → C' ≡ charged_counters C (one at)
unfolding charge one
one-charged {C} at e l q = q ∙ added-all (added-same (added-one (added_none C e.below) at 1 e.long l) (λ c _. zero-add _)) e.long

-- the counters stay below p
pub still-elements : {C C' : List ℕ} (f : ℕ → ℕ) → ElementRow NUM-COUNTERS C → C' ≡ charged_counters C f → ElementRow NUM-COUNTERS C'
still-elements {C} f e q = subst (ElementRow NUM-COUNTERS) (sym q) (charged-elements C f e.long)

-- f, and then g
pub added-join : {C₀ C C' : List ℕ} {f g : ℕ → ℕ} → Added C₀ f C → Added C g C' → Added C₀ (λ c. f c + g c) C'
added-join {C₀} {C} {C'} {f} {g} a b =
    record {
      long = b.long ∙ a.long;
      is = λ c l. b.is c l ∙ ap (λ (n : ℕ). (n + g c) % p) (a.is c l) ∙ mod-add-mod (word C₀ c + f c) p (g c) ∙ ap (λ (n : ℕ). n % p) (omega arith);
      rest = b.rest ∙ a.rest;
    }

pub both-charged : {C₀ C C' : List ℕ} (f g : ℕ → ℕ) → ElementRow NUM-COUNTERS C₀ → C ≡ charged_counters C₀ f → C' ≡ charged_counters C g → C' ≡ charged_counters C₀ (both f g)
unfolding both
both-charged {C₀} {C} {C'} f g e q w =
    let a : Added C₀ f C = subst (Added C₀ f) (sym q) (charged-added C₀ f e.long) in
    let b : Added C g C' = subst (Added C g) (sym w) (charged-added C g (still-elements f e q).long) in
    added-all (added-join a b) e.long

-- the same by other numbers
pub same-charged : {C C' : List ℕ} (f g : ℕ → ℕ) → ElementRow NUM-COUNTERS C → ((c : ℕ) → f c ≡ g c) → C' ≡ charged_counters C f → C' ≡ charged_counters C g
same-charged {C} f g e h q = q ∙ added-all (added-same (charged-added C f e.long) (λ c _. h c)) e.long

-- after i of n parts
pub record Parts (n : ℕ) (F : ℕ → ℕ → ℕ) (C₀ C : List ℕ) (i : ℕ) : Type 0 where
  pub bound : i ≤ n
  pub enough : NUM-COUNTERS ≤ length C₀
  pub added : Added C₀ (parts i F) C

pub parts_none : {n : ℕ} {F : ℕ → ℕ → ℕ} {C : List ℕ} → ElementRow NUM-COUNTERS C → Parts n F C C 0
unfolding parts sum_below
parts_none {n} {F} {C} e = record { bound = omega arith; enough = e.long; added = added_none C e.below }

module _ {n : ℕ} {F : ℕ → ℕ → ℕ} {C₀ C : List ℕ} {i : ℕ} (s : Parts n F C₀ C i) where
  pub parts-elements : ElementRow NUM-COUNTERS C
  parts-elements = record { long = subst (λ (k : ℕ). NUM-COUNTERS ≤ k) (sym s.added.long) s.enough; below = added-below s.added }

  pub parts_more : {C' : List ℕ} → i < n → C' ≡ charged_counters C (F i) → Parts n F C₀ C' (i + 1)
  unfolding parts sum_below
  parts_more {C'} l q =
      record {
        bound = omega arith;
        enough = s.enough;
        added = added-same
            (added-join s.added (subst (Added C (F i)) (sym q) (charged-added C (F i) parts-elements.long)))
            (λ c _. ap (λ (k : ℕ). sum_below k (λ j. F j c)) (sym (add-one i)));
      }

  pub parts_all : n ≤ i → C ≡ charged_counters C₀ (parts n F)
  parts_all l =
      let b = s.bound in
      let e : i ≡ n = omega arith in
      added-all s.added s.enough ∙ ap (λ (k : ℕ). charged_counters C₀ (parts k F)) e

-- ---- the lanes of a round, from what each call leaves
module _ (s : List ℕ) (x : ℕ) where
  abbrev a : ℕ
  a = bit_xor (get_or s x 0) (get_or s (x + 5) 0)

  abbrev b : ℕ
  b = bit_xor a (get_or s (x + 10) 0)

  abbrev d : ℕ
  d = bit_xor b (get_or s (x + 15) 0)

  pub column-charged : {C₀ C₁ C₂ C₃ C₄ : List ℕ} → ElementRow NUM-COUNTERS C₀ → C₁ ≡ charged_counters C₀ (lane_adds XOR (get_or s x 0) (get_or s (x + 5) 0)) → C₂ ≡ charged_counters C₁ (lane_adds XOR a (get_or s (x + 10) 0))
      → C₃ ≡ charged_counters C₂ (lane_adds XOR b (get_or s (x + 15) 0)) → C₄ ≡ charged_counters C₃ (lane_adds XOR d (get_or s (x + 20) 0)) → C₄ ≡ charged_counters C₀ (column_adds s x)
  unfolding column_adds
  column-charged {C₀} {C₂ = C₂} e q₁ q₂ q₃ q₄ =
      let f = both (lane_adds XOR (get_or s x 0) (get_or s (x + 5) 0)) (lane_adds XOR a (get_or s (x + 10) 0)) in
      let g = both (lane_adds XOR b (get_or s (x + 15) 0)) (lane_adds XOR d (get_or s (x + 20) 0)) in
      let q : C₂ ≡ charged_counters C₀ f = both-charged _ _ e q₁ q₂ in
      both-charged f g e q (both-charged _ _ (still-elements f e q) q₃ q₄)

module _ {C₀ C₁ C₂ C₃ : List ℕ} (e : ElementRow NUM-COUNTERS C₀) where
  pub front-charged : (s : List ℕ) {cs d : List ℕ} → C₁ ≡ charged_counters C₀ (parts 5 (column_adds s)) → cs ≡ tab 5 (parity_l s) → C₂ ≡ charged_counters C₁ (parts 5 (turn_adds cs))
      → d ≡ tab 5 (theta_dl cs) → C₃ ≡ charged_counters C₂ (parts 25 (theta_adds s d)) → C₃ ≡ charged_counters C₀ (front_adds s)
  unfolding front_adds
  front-charged s {cs} {d} q₁ ec q₂ ed q₃ =
      let c = tab 5 (parity_l s) in
      both-charged (both (parts 5 (column_adds s)) (parts 5 (turn_adds c))) (parts 25 (theta_adds s (tab 5 (theta_dl c)))) e
      (both-charged (parts 5 (column_adds s)) (parts 5 (turn_adds c)) e q₁ (q₂ ∙ ap (λ (k : List ℕ). charged_counters C₁ (parts 5 (turn_adds k))) ec))
      (q₃ ∙ ap (λ (k : List ℕ). charged_counters C₂ (parts 25 (theta_adds s k))) (ed ∙ ap (λ (k : List ℕ). tab 5 (theta_dl k)) ec))

  pub rest-charged : (r : ℕ) (t : List ℕ) {u v : List ℕ} {rc : ℕ} → C₁ ≡ charged_counters C₀ (parts 25 (rho_adds t)) → u ≡ rho_pi_l t → C₂ ≡ charged_counters C₁ (parts 25 (chi_adds u))
      → v ≡ chi_l u → rc ≡ round_constant r → C₃ ≡ charged_counters C₂ (lane_adds XOR (get_or v 0 0) rc) → C₃ ≡ charged_counters C₀ (rest_adds r t)
  unfolding rest_adds
  rest-charged r t {u} {v} {rc} q₁ eu q₂ ev er q₃ =
      both-charged (both (parts 25 (rho_adds t)) (parts 25 (chi_adds (rho_pi_l t)))) (lane_adds XOR (get_or (chi_l (rho_pi_l t)) 0 0) (round_constant r)) e
      (both-charged (parts 25 (rho_adds t)) (parts 25 (chi_adds (rho_pi_l t))) e q₁ (q₂ ∙ ap (λ (k : List ℕ). charged_counters C₁ (parts 25 (chi_adds k))) eu))
      (q₃ ∙ ap₂ (λ (k : List ℕ) (n : ℕ). charged_counters C₂ (lane_adds XOR (get_or k 0 0) n)) (ev ∙ ap chi_l eu) er)
