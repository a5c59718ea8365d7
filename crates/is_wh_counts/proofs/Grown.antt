-- The counters C afterwards, from C₀, where a counter to which nothing is added may hold any word.
use mathlib.Core.Bool.{Bool, true, false}
use mathlib.Core.List.{List, ◌++◌}
use mathlib.Core.Path.{◌≡◌, refl, sym, ap, ap₂, subst, ◌∙◌}
use Prim.Native.Nat.{ℕ, ◌+◌, ◌%◌, ◌≤◌, ◌<◌}
use native.Mathlib.Nat.{add-zero, mod-eq_of_lt, mod-add-mod}
use native.Mathlib.Omega.{arith}
use borrow.Author.Tests.{eq-eqb, ne_eqb}
use lib.Dec.{eqb}
use lib.ListN.{length, take, drop, length-append, length-drop, take-append-drop, get_or-append}
use lib.Seq.{get_or-take, length-take-le, drop-set-lt, drop-append_seam}
use Rattle.lists.specs.Tab.{pick, tab, word}
use Rattle.lists.proofs.Kept.{by-eq}
use Rattle.lists.proofs.Laws.{length-tab, get_d-tab, tab-same, list-tab}
use Rattle.field.specs.Field.{p}
use Rattle.field.specs.Elements.{ElementRow}
use Rattle.field.proofs.Field.{mod-p}
use Rattle.answer.specs.Refusal.{overwrite}
use Rattle.bitwise.specs.Columns.{NUM-COUNTERS}
use Rattle.bitwise.specs.Counters.{charge}
use Rattle.bitwise.specs.Charge.{charged_words, charged_counters}
use Rattle.bitwise.proofs.Counters.{charge-length, charge-same, charge-other, charge-below}
use Rattle.is_wh_counts.specs.Counts.{grown_counters}
use Rattle.is_wh_counts.specs.Steps.{charge_some}

-- ---- one counter: w, and n that is added to it
abbrev grown : ℕ → ℕ → ℕ
grown n w = pick (eqb n 0) w ((w + n) % p)

grown-zero : (n w : ℕ) → n ≡ 0 → grown n w ≡ w
grown-zero n w e = ap (λ (b : Bool). pick b w ((w + n) % p)) (eq-eqb n 0 e)

grown-some : (n w : ℕ) → (n ≡ 0 → ⊥) → grown n w ≡ (w + n) % p
grown-some n w e = ap (λ (b : Bool). pick b w ((w + n) % p)) (ne_eqb n 0 e)

-- a word below p stays so, and grows as words below p do
grown-element : (n w : ℕ) → w < p → grown n w ≡ (w + n) % p
grown-element n w h =
    by-eq n 0
    (λ e. grown-zero n w e ∙ sym (mod-eq_of_lt h) ∙ ap (λ (k : ℕ). k % p) (sum w n e))
    (λ d. grown-some n w d)
  where
    sum : (w n : ℕ) → n ≡ 0 → w ≡ w + n
    sum w n e = omega (arith, e)

grown-more : (m n w : ℕ) → w < p → (grown m w + n) % p ≡ grown (m + n) w
grown-more m n w h =
    ap (λ (k : ℕ). (k + n) % p) (grown-element m w h) ∙ mod-add-mod (w + m) p n ∙ ap (λ (k : ℕ). k % p) (omega arith) ∙ sym (grown-element (m + n) w h)

-- ---- a charge that may add nothing
drop-charge : (m : ℕ) (C : List ℕ) (at n : ℕ) → at < m → drop m (charge C at n) ≡ drop m C
unfolding charge
drop-charge m C at n l = drop-set-lt m C at _ l

module _ (C : List ℕ) (at n : ℕ) where
  pub some-none : n ≡ 0 → C ≡ charge_some C at n
  unfolding charge_some
  some-none e = ap (λ (t : Bool). pick t C (charge C at n)) (sym (eq-eqb n 0 e))

  pub some-charged : (n ≡ 0 → ⊥) → charge C at n ≡ charge_some C at n
  unfolding charge_some
  some-charged d = ap (λ (t : Bool). pick t C (charge C at n)) (sym (ne_eqb n 0 d))

  pub some-length : length (charge_some C at n) ≡ length C
  some-length = by-eq n 0 (λ e. ap length (sym (some-none e))) (λ d. ap length (sym (some-charged d)) ∙ charge-length C at n)

  pub some_below : (k : ℕ) → k < length C → word C k < p → word (charge_some C at n) k < p
  some_below k l h =
      by-eq n 0
      (λ e. subst (λ (r : List ℕ). word r k < p) (some-none e) h)
      (λ d. subst (λ (r : List ℕ). word r k < p) (some-charged d) (charge-below C at n k l h))

-- ---- counters that are as many, and of which those below p stay so
pub record Kept (C₀ C : List ℕ) : Type 0 where
  pub long : length C ≡ length C₀
  pub below : (k : ℕ) → k < length C₀ → word C₀ k < p → word C k < p

pub kept_more : {C₀ C C' : List ℕ} → Kept C₀ C → (at n : ℕ) → C' ≡ charge_some C at n → Kept C₀ C'
kept_more {C₀} {C} s at n e =
    record {
      long = ap length e ∙ some-length C at n ∙ s.long;
      below = λ k l h. subst (λ (r : List ℕ). word r k < p) (sym e) (some_below C at n k (omega (arith, s.long, l)) (s.below k l h));
    }

pub kept-one : {C₀ C : List ℕ} (at n : ℕ) → C ≡ charge_some C₀ at n → Kept C₀ C
kept-one {C₀} at n e = kept_more (record { long = refl; below = λ k l h. h }) at n e

-- such a counter may be charged
pub kept_there : {C₀ C : List ℕ} {n : ℕ} → Kept C₀ C → (k : ℕ) → k < length C₀ → (0 < n → word C₀ k < p) → (k < length C) × (0 < n → word C k < p)
kept_there s k l h = (omega (arith, s.long, l), λ q. s.below k l (h q))

-- ---- all of them
pub record Grown (C₀ : List ℕ) (added : ℕ → ℕ) (C : List ℕ) : Type 0 where
  pub long : length C ≡ length C₀
  pub is : (c : ℕ) → c < NUM-COUNTERS → word C c ≡ grown (added c) (word C₀ c)
  pub rest : drop NUM-COUNTERS C ≡ drop NUM-COUNTERS C₀

pub grown-none : (C : List ℕ) (f : ℕ → ℕ) → ((c : ℕ) → f c ≡ 0) → Grown C f C
grown-none C f e = record { long = refl; is = λ c l. sym (grown-zero (f c) (word C c) (e c)); rest = refl }

module _ {C₀ C : List ℕ} {f : ℕ → ℕ} (a : Grown C₀ f C) where
  pub grown-below : (c : ℕ) → c < NUM-COUNTERS → word C₀ c < p → word C c < p
  grown-below c l h = subst (λ (n : ℕ). n < p) (sym (a.is c l ∙ grown-element (f c) (word C₀ c) h)) (mod-p (word C₀ c + f c))

  pub grown-same : (g : ℕ → ℕ) → ((c : ℕ) → c < NUM-COUNTERS → f c ≡ g c) → Grown C₀ g C
  grown-same g e = record { long = a.long; is = λ c l. a.is c l ∙ ap (λ (n : ℕ). grown n (word C₀ c)) (e c l); rest = a.rest }

  -- n more on counter `at`, which is below p
  grown-one : (at n : ℕ) → NUM-COUNTERS ≤ length C₀ → at < NUM-COUNTERS → word C₀ at < p → Grown C₀ (λ c. f c + pick (eqb c at) n 0) (charge C at n)
  grown-one at n h l b =
      record {
        long = charge-length C at n ∙ a.long;
        is = λ c k. by-eq c at (λ e. there c e) (λ d. other c k d);
        rest = drop-charge NUM-COUNTERS C at n l ∙ a.rest;
      }
    where
      there : (c : ℕ) → c ≡ at → word (charge C at n) c ≡ grown (f c + pick (eqb c at) n 0) (word C₀ c)
      there c e =
          ap (word (charge C at n)) e
          ∙ charge-same C at n (omega (arith, a.long, h, l))
          ∙ ap (λ (x : ℕ). (x + n) % p) (a.is at l)
          ∙ grown-more (f at) n (word C₀ at) b
          ∙ ap (λ (k : ℕ). grown (f k + n) (word C₀ k)) (sym e)
          ∙ ap (λ (t : Bool). grown (f c + pick t n 0) (word C₀ c)) (sym (eq-eqb c at e))

      other : (c : ℕ) → c < NUM-COUNTERS → (c ≡ at → ⊥) → word (charge C at n) c ≡ grown (f c + pick (eqb c at) n 0) (word C₀ c)
      other c k d =
          charge-other C at n c d
          ∙ a.is c k
          ∙ ap (λ (x : ℕ). grown x (word C₀ c)) (sym (add-zero (f c)))
          ∙ ap (λ (t : Bool). grown (f c + pick t n 0) (word C₀ c)) (sym (ne_eqb c at d))

  pub grown-charge : (at n : ℕ) → NUM-COUNTERS ≤ length C₀ → at < NUM-COUNTERS → (0 < n → word C₀ at < p) → Grown C₀ (λ c. f c + pick (eqb c at) n 0) (charge_some C at n)
  grown-charge at n h l b =
      by-eq n 0
      (λ e. subst (Grown C₀ (λ c. f c + pick (eqb c at) n 0)) (some-none C at n e)
      (grown-same (λ c. f c + pick (eqb c at) n 0) (λ c _. nothing (eqb c at) (f c) n e)))
      (λ d. subst (Grown C₀ (λ c. f c + pick (eqb c at) n 0)) (some-charged C at n d)
      (grown-one at n h l (b (omega (arith, d)))))
    where
      nothing : (t : Bool) (m n : ℕ) → n ≡ 0 → m ≡ m + pick t n 0
      nothing true m n e = omega (arith, e)
      nothing false m n e = omega arith

  pub grown-all : NUM-COUNTERS ≤ length C₀ → C ≡ grown_counters C₀ f
  unfolding grown_counters overwrite
  grown-all h =
      let g : ℕ → ℕ = λ c. grown (f c) (word C₀ c) in
      let new = tab NUM-COUNTERS g in
      let k : length new ≡ NUM-COUNTERS = length-tab NUM-COUNTERS g in
      let front : take NUM-COUNTERS C ≡ new =
      list-tab (take NUM-COUNTERS C) NUM-COUNTERS (length-take-le NUM-COUNTERS C (omega (arith, a.long)))
      ∙ tab-same NUM-COUNTERS (λ c. word (take NUM-COUNTERS C) c) g (λ c l. get_or-take NUM-COUNTERS C c 0 l ∙ a.is c l) in
      sym (take-append-drop NUM-COUNTERS C) ∙ ap₂ ◌++◌ front (a.rest ∙ ap (λ (n : ℕ). drop n C₀) (sym k))

-- and back
pub grown-counters : (C₀ : List ℕ) (f : ℕ → ℕ) → NUM-COUNTERS ≤ length C₀ → Grown C₀ f (grown_counters C₀ f)
unfolding grown_counters overwrite
grown-counters C₀ f h =
    let g : ℕ → ℕ = λ c. grown (f c) (word C₀ c) in
    let new = tab NUM-COUNTERS g in
    let k : length new ≡ NUM-COUNTERS = length-tab NUM-COUNTERS g in
    record {
      long = length-append new (drop (length new) C₀) ∙ omega (arith, length-drop (length new) C₀);
      is = λ c l. get_or-append new (drop (length new) C₀) 0 c (omega arith) ∙ get_d-tab NUM-COUNTERS g c 0 l;
      rest = ap (λ (n : ℕ). drop n (new ++ drop (length new) C₀)) (sym k) ∙ drop-append_seam new (drop (length new) C₀) ∙ ap (λ (n : ℕ). drop n C₀) k;
    }

-- counters that are all below p grow as a charge has it
pub grown-elements : (C₀ : List ℕ) (f : ℕ → ℕ) → ElementRow NUM-COUNTERS C₀ → grown_counters C₀ f ≡ charged_counters C₀ f
unfolding grown_counters charged_words charged_counters
grown-elements C₀ f e =
    ap (λ (l : List ℕ). overwrite l C₀)
    (tab-same NUM-COUNTERS (λ c. grown (f c) (word C₀ c)) (λ c. (word C₀ c + f c) % p) (λ c l. grown-element (f c) (word C₀ c) (e.below c l)))
