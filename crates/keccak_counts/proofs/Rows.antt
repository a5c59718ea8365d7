-- The counters turn by turn: after i places of a loop, after a row, after i rows.
use mathlib.Core.List.{List}
use mathlib.Core.Path.{◌≡◌, sym, ap, subst, ◌∙◌}
use Prim.Native.Nat.{ℕ, ◌+◌, ◌≤◌, ◌<◌}
use native.Mathlib.Numerals.{add-one}
use native.Mathlib.Omega.{arith}
use lib.Dec.{eqb}
use lib.ListN.{length}
use Rattle.lists.specs.Tab.{pick}
use Rattle.lists.specs.Sum.{sum_below}
use Rattle.lists.proofs.Sum.{sum_same}
use Rattle.field.specs.Elements.{ElementRow}
use Rattle.bitwise.specs.Columns.{NUM-COUNTERS}
use Rattle.bitwise.specs.Counters.{charge}
use Rattle.bitwise.specs.Charge.{charged_row, charged, charged_counters}
use Rattle.bitwise.proofs.Charge.{Added, added_none, added-same, added-one, added-below, added-all, charged-added}
use Rattle.bitwise.proofs.Charged.{added-again}
use Rattle.keccak.specs.Row.{op_at, core_row}
use Rattle.keccak.specs.Refusals.{address_at}
use Rattle.keccak.specs.Tuples.{core_tuple}
use Rattle.keccak_counts.specs.Places.{hits, pointer_place, align_place, pair_place, address_adds}
use Rattle.keccak_counts.proofs.Row.{row-adds}

-- ---- more on what was added before
module _ {C₀ C : List ℕ} {f : ℕ → ℕ} (a : Added C₀ f C) (long : NUM-COUNTERS ≤ length C₀) where
  pub still-elements : ElementRow NUM-COUNTERS C
  still-elements = record { long = subst (λ (k : ℕ). NUM-COUNTERS ≤ k) (sym a.long) long; below = added-below a }

  pub added_then : (g : ℕ → ℕ) {C' : List ℕ} → C' ≡ charged_counters C g → Added C₀ (λ c. f c + g c) C'
  added_then g {C'} e =
      added-again a (subst (Added C g) (sym e) (charged-added C g still-elements.long))

-- ---- a loop over places: after i of them
pub record Hit (at : ℕ → ℕ) (C₀ C : List ℕ) (n i : ℕ) : Type 0 where
  pub bound : i ≤ n
  pub added : Added C₀ (hits i at) C

module _ (at : ℕ → ℕ) where
  pub hit-none : {C : List ℕ} (n : ℕ) → ElementRow NUM-COUNTERS C → Hit at C C n 0
  unfolding hits sum_below
  hit-none {C} n e = record { bound = omega arith; added = added_none C e.below }

  pub hit-more : {C₀ C C' : List ℕ} {n i : ℕ} → Hit at C₀ C n i → NUM-COUNTERS ≤ length C₀ → i < n → at i < NUM-COUNTERS → C' ≡ charge C (at i) 1
      → Hit at C₀ C' n (i + 1)
  unfolding hits sum_below charge
  hit-more {C₀} {C} {C'} {n} {i} s long l b e =
      record {
        bound = omega arith;
        added = subst (Added C₀ (hits (i + 1) at)) (sym e)
            (added-same (added-one s.added (at i) 1 long b) (λ c k. ap (λ (m : ℕ). sum_below m (λ j. pick (eqb c (at j)) 1 0)) (sym (add-one i))));
      }

  pub hit-all : {C₀ C : List ℕ} {n i : ℕ} → Hit at C₀ C n i → NUM-COUNTERS ≤ length C₀ → n ≤ i → C ≡ charged_counters C₀ (hits n at)
  hit-all {C₀} {C} {n} {i} s long l =
      let b = s.bound in
      let q : i ≡ n = omega arith in
      added-all s.added long ∙ ap (λ (k : ℕ). charged_counters C₀ (hits k at)) q

-- ---- a row
pub address-all : {C₀ C₁ C₂ C₃ : List ℕ} (a : ℕ) → ElementRow NUM-COUNTERS C₀ → C₁ ≡ charged_counters C₀ (hits 25 (pointer_place a)) → C₂ ≡ charge C₁ (align_place a) 1
    → C₃ ≡ charged_counters C₂ (hits 4 (pair_place a)) → C₃ ≡ charged_counters C₀ (address_adds a)
unfolding address_adds charge
address-all {C₀} {C₁} {C₂} {C₃} a h e₁ e₂ e₃ =
    let a₁ : Added C₀ (hits 25 (pointer_place a)) C₁ = subst (Added C₀ (hits 25 (pointer_place a))) (sym e₁) (charged-added C₀ (hits 25 (pointer_place a)) h.long) in
    let a₂ : Added C₀ (λ c. hits 25 (pointer_place a) c + pick (eqb c (align_place a)) 1 0) C₂ =
    subst (Added C₀ (λ c. hits 25 (pointer_place a) c + pick (eqb c (align_place a)) 1 0)) (sym e₂) (added-one a₁ (align_place a) 1 h.long (omega arith)) in
    added-all (added_then a₂ h.long (hits 4 (pair_place a)) e₃) h.long

-- ---- the rows of a list
module _ (ops : List ℕ) where
  -- what the first i of them add, from the addresses alone
  abbrev rows_add : ℕ → ℕ → ℕ
  rows_add i c = sum_below i (λ r. address_adds (address_at ops r) c)

  more-adds : (i c : ℕ) → rows_add (i + 1) c ≡ rows_add i c + address_adds (address_at ops i) c
  unfolding sum_below
  more-adds i c = ap (λ (k : ℕ). rows_add k c) (add-one i)

  -- it is what their tuples add, of any number of rounds
  rows-charged : (nr n c : ℕ) → rows_add n c ≡ charged n 84 (λ r. core_tuple nr 0 (core_row (op_at ops r))) c
  unfolding charged
  rows-charged nr n c =
      sum_same n (λ r. address_adds (address_at ops r) c) (λ r. charged_row 84 (core_tuple nr 0 (core_row (op_at ops r))) c) (λ r _. sym (row-adds (op_at ops r) c nr 0))

  -- after i turns
  pub record RowsAdded (C₀ C : List ℕ) (n i : ℕ) : Type 0 where
    pub bound : i ≤ n
    pub added : Added C₀ (rows_add i) C

  pub rows_none : {C : List ℕ} (n : ℕ) → ElementRow NUM-COUNTERS C → RowsAdded C C n 0
  unfolding sum_below
  rows_none {C} n e = record { bound = omega arith; added = added_none C e.below }

  pub rows_more : {C₀ C C' : List ℕ} {n i : ℕ} → RowsAdded C₀ C n i → NUM-COUNTERS ≤ length C₀ → i < n → C' ≡ charged_counters C (address_adds (address_at ops i))
      → RowsAdded C₀ C' n (i + 1)
  rows_more {C₀} {C} {C'} {n} {i} s long l e =
      record { bound = omega arith; added = added-same (added_then s.added long (address_adds (address_at ops i)) e) (λ c k. sym (more-adds i c)) }

  pub rows_all : {C₀ C : List ℕ} {n i : ℕ} → RowsAdded C₀ C n i → NUM-COUNTERS ≤ length C₀ → n ≤ i
      → (nr : ℕ) → C ≡ charged_counters C₀ (charged n 84 (λ r. core_tuple nr 0 (core_row (op_at ops r))))
  rows_all {C₀} {C} {n} {i} s long l nr =
      let b = s.bound in
      let q : i ≡ n = omega arith in
      added-all (added-same s.added (λ c _. ap (λ (k : ℕ). rows_add k c) q ∙ rows-charged nr n c)) long
