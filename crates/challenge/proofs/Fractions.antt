-- The sum of fractions a / (z − f), with the denominators multiplied out.
--     sum-numerator    where quotients add up to 0 the numerator is 0
--     split            the fractions at one place f, and the others
--     few-zeros        where those at f do not cancel, the numerator is 0 for no more z than there are fractions
use mathlib.Core.Path.{◌≡◌, refl, sym, ap, ap₂, ◌∙◌}
use mathlib.Core.Bool.{Bool, true, false, not}
use mathlib.Core.List.{List, [], ◌∷◌, ◌++◌}
use Prim.Native.Nat.{ℕ, zero, suc, ◌+◌, ◌≤◌, ◌<◌}
use native.Mathlib.Omega.{arith}
use lib.ListN.{length}
use Rattle.lists.specs.Tab.{pick}
use Rattle.lists.specs.Select.{cons_if, selected}
use Rattle.lists.proofs.Then.{by_le}
use Rattle.challenge.specs.Domain.{Domain}
use Rattle.challenge.specs.Check.{All, Distinct, decided, Fraction, Sum, joined, denominator as denominatorOf, numerator as numeratorOf, ◌⊖◌ as minus}
use Rattle.challenge.proofs.Kept.{all_map, all_both, kept-all, kept-distinct, kept-pass, kept_less, is_not, is-not, all_but_one}
use Rattle.challenge.proofs.Ring.{none-plus, times_none, none-times, times-left-comm, no_difference, factor, step-at, step_other, step_sum, step-append}
use Rattle.challenge.proofs.Polynomials.{Poly, poly-plus, poly-scale, poly-linear, poly-one, poly-zero, poly-none}

module _ {p : ℕ} (D : Domain p) where
  infixl 65 ◌⊕◌
  infixl 65 ◌⊖◌
  infixl 70 ◌⊗◌
  open D use {F, plus as ◌⊕◌, times as ◌⊗◌, none, one, same, plus_none, plus-negative, times-plus, times-assoc, times-comm, times-one, one-is-not}

  abbrev ◌⊖◌ : F → F → F
  a ⊖ b = minus D a b

  abbrev denominator : F → List (Fraction D) → F
  denominator z fs = denominatorOf D z fs

  abbrev numerator : F → List (Fraction D) → F
  numerator z fs = numeratorOf D z fs

  -- ---- quotients
  den-append : (z : F) (fs gs : List (Fraction D)) → denominator z (fs ++ gs) ≡ denominator z fs ⊗ denominator z gs
  unfolding denominatorOf
  den-append z [] gs = sym (times-comm one (denominator z gs) ∙ times-one (denominator z gs))
  den-append z (f ∷ fs) gs = ap (λ (y : F). (z ⊖ f.below) ⊗ y) (den-append z fs gs) ∙ sym (times-assoc (z ⊖ f.below) (denominator z fs) (denominator z gs))

  num-append : (z : F) (fs gs : List (Fraction D)) → numerator z (fs ++ gs) ≡ numerator z fs ⊗ denominator z gs ⊕ denominator z fs ⊗ numerator z gs
  unfolding denominatorOf numeratorOf
  num-append z [] gs =
      sym (ap₂ ◌⊕◌ (none-times D (denominator z gs)) (times-comm one (numerator z gs) ∙ times-one (numerator z gs)) ∙ none-plus D (numerator z gs))
  num-append z (f ∷ fs) gs =
      ap₂ (λ (x y : F). f.above ⊗ x ⊕ (z ⊖ f.below) ⊗ y) (den-append z fs gs) (num-append z fs gs)
      ∙ step-append D f.above (denominator z fs) (denominator z gs) (z ⊖ f.below) (numerator z fs) (numerator z gs)

  pub sum-numerator : (z s : F) (gs : List (List (Fraction D))) → Sum D z gs s → numerator z (joined gs) ≡ denominator z (joined gs) ⊗ s
  unfolding denominatorOf numeratorOf joined
  sum-numerator z s [] e = sym (ap (λ (y : F). one ⊗ y) e ∙ times_none D one)
  sum-numerator z s (g ∷ gs) h =
      num-append z g (joined gs)
      ∙ ap₂ (λ (x y : F). x ⊗ denominator z (joined gs) ⊕ denominator z g ⊗ y) (sym h.2) (sum-numerator z h.1 gs h.3)
      ∙ step_sum D (denominator z g) (denominator z (joined gs)) h.0 h.1
      ∙ ap₂ ◌⊗◌ (sym (den-append z g (joined gs))) (sym h.4)

  -- ---- as functions of z
  pub poly-denominator : (fs : List (Fraction D)) → Poly D (suc (length fs)) (λ z. denominator z fs)
  unfolding denominatorOf
  poly-denominator [] = poly-one D
  poly-denominator (f ∷ fs) = poly-linear D (suc (length fs)) f.below (λ z. denominator z fs) (poly-denominator fs)

  pub poly-numerator : (fs : List (Fraction D)) → Poly D (length fs) (λ z. numerator z fs)
  unfolding numeratorOf
  poly-numerator [] = poly-zero D
  poly-numerator (f ∷ fs) =
      poly-plus D (suc (length fs)) (λ z. f.above ⊗ denominator z fs) (λ z. (z ⊖ f.below) ⊗ numerator z fs)
      (poly-scale D (suc (length fs)) f.above (λ z. denominator z fs) (poly-denominator fs))
      (poly-linear D (length fs) f.below (λ z. numerator z fs) (poly-numerator fs))

  -- ---- the fractions at one place, and the others
  -- d is z less that place; den, num are of all fractions, o, n of the others, c is what those there have above
  pub record Parts (d den num c o n : F) : Type 0 where
    pub unit : F
    pub apart : ¬ (d ≡ none) → ¬ (unit ≡ none)
    pub den-is : den ≡ unit ⊗ o
    pub num-is : d ⊗ num ≡ unit ⊗ (c ⊗ o ⊕ d ⊗ n)

  pub parts-empty : (d : F) → Parts d one none none one none
  parts-empty d = record {
    unit = one;
    apart = λ n. one-is-not;
    den-is = sym (times-one one);
    num-is =
        times_none D d
        ∙ sym (ap (λ (y : F). one ⊗ y) (ap₂ ◌⊕◌ (none-times D one) (times_none D d) ∙ plus_none none) ∙ times_none D one);
  }

  pub parts_at : (d den num c o n a : F) → Parts d den num c o n → Parts d (d ⊗ den) (a ⊗ den ⊕ d ⊗ num) (a ⊕ c) o n
  parts_at d den num c o n a P = record {
    unit = d ⊗ P.unit;
    apart = λ m q. P.apart m (factor D d P.unit q m);
    den-is = ap (λ (y : F). d ⊗ y) P.den-is ∙ sym (times-assoc d P.unit o);
    num-is = ap₂ (λ (x y : F). d ⊗ (a ⊗ x ⊕ y)) P.den-is P.num-is ∙ step-at D d P.unit o c n a;
  }

  pub parts-other : (d den num c o n a g : F) → Parts d den num c o n → Parts d (g ⊗ den) (a ⊗ den ⊕ g ⊗ num) c (g ⊗ o) (a ⊗ o ⊕ g ⊗ n)
  parts-other d den num c o n a g P = record {
    unit = P.unit;
    apart = P.apart;
    den-is = ap (λ (y : F). g ⊗ y) P.den-is ∙ times-left-comm D g P.unit o;
    num-is =
        times-plus d (a ⊗ den) (g ⊗ num)
        ∙ ap₂ (λ (x y : F). d ⊗ (a ⊗ x) ⊕ y) P.den-is (times-left-comm D d g num ∙ ap (λ (y : F). g ⊗ y) P.num-is)
        ∙ step_other D d P.unit o c n a g;
  }

  module _ (f : F) where
    abbrev elsewhere : Fraction D → Bool
    elsewhere g = is_not same f g.below

    -- what those at f have above
    unfoldable pub gathered : List (Fraction D) → F
    gathered [] = none
    gathered (g ∷ fs) = pick (elsewhere g) (gathered fs) (g.above ⊕ gathered fs)

    abbrev others : List (Fraction D) → List (Fraction D)
    others fs = selected elsewhere fs

    split_step : (z : F) (g : Fraction D) (os : List (Fraction D)) (den num c : F) (e : Dec (g.below ≡ f)) →
        Parts (z ⊖ f) den num c (denominator z os) (numerator z os) →
        Parts (z ⊖ f) ((z ⊖ g.below) ⊗ den) (g.above ⊗ den ⊕ (z ⊖ g.below) ⊗ num) (pick (not (decided e)) c (g.above ⊕ c))
        (denominator z (cons_if (not (decided e)) g os)) (numerator z (cons_if (not (decided e)) g os))
    unfolding denominatorOf numeratorOf
    split_step z g os den num c (yes q) P =
        rw q (parts_at (z ⊖ f) den num c (denominator z os) (numerator z os) g.above P)
    split_step z g os den num c (no m) P =
        parts-other (z ⊖ f) den num c (denominator z os) (numerator z os) g.above (z ⊖ g.below) P

    split : (z : F) (fs : List (Fraction D)) →
        Parts (z ⊖ f) (denominator z fs) (numerator z fs) (gathered fs) (denominator z (others fs)) (numerator z (others fs))
    unfolding denominatorOf numeratorOf gathered selected
    split z [] = parts-empty (z ⊖ f)
    split z (g ∷ fs) = split_step z g (others fs) (denominator z fs) (numerator z fs) (gathered fs) (same g.below f) (split z fs)

    -- no other denominator is 0 at f
    others_apart : (fs : List (Fraction D)) → All (λ g. elsewhere g ≡ true) fs → ¬ (denominator f fs ≡ none)
    unfolding denominatorOf
    others_apart [] h e = one-is-not e
    others_apart (g ∷ fs) h e =
        others_apart fs h.1
        (factor D (f ⊖ g.below) (denominator f fs) e (λ q. is-not same f g.below h.0 (sym (no_difference D f g.below q))))

    -- where some are at f, the others are fewer
    others-fewer : (fs : List (Fraction D)) → ¬ (gathered fs ≡ none) → length (others fs) < length fs
    unfolding gathered selected
    others-fewer [] m = absurd (m refl)
    others-fewer (g ∷ fs) m = go (same g.below f) m (others-fewer fs)
      where
        go : (e : Dec (g.below ≡ f)) → ¬ (pick (not (decided e)) (gathered fs) (g.above ⊕ gathered fs) ≡ none) →
            (¬ (gathered fs ≡ none) → length (others fs) < length fs) → length (cons_if (not (decided e)) g (others fs)) < suc (length fs)
        go (yes q) m back = omega (arith, kept_less elsewhere fs)
        go (no k) m back = omega (arith, back m)

    -- their sum, times z − f and the denominators of the others
    cleared : List (Fraction D) → F → F
    cleared fs z = gathered fs ⊗ denominator z (others fs) ⊕ (z ⊖ f) ⊗ numerator z (others fs)

    poly-cleared : (fs : List (Fraction D)) → Poly D (suc (length (others fs))) (cleared fs)
    unfolding cleared
    poly-cleared fs =
        poly-plus D (suc (length (others fs))) (λ z. gathered fs ⊗ denominator z (others fs)) (λ z. (z ⊖ f) ⊗ numerator z (others fs))
        (poly-scale D (suc (length (others fs))) (gathered fs) (λ z. denominator z (others fs)) (poly-denominator (others fs)))
        (poly-linear D (length (others fs)) f (λ z. numerator z (others fs)) (poly-numerator (others fs)))

    cleared_at : (fs : List (Fraction D)) → cleared fs f ≡ none → gathered fs ≡ none
    unfolding cleared
    cleared_at fs e =
        let a : gathered fs ⊗ denominator f (others fs) ≡ none =
        sym (plus_none (gathered fs ⊗ denominator f (others fs)))
        ∙ ap (λ (y : F). gathered fs ⊗ denominator f (others fs) ⊕ y)
        (sym (ap (λ (y : F). y ⊗ numerator f (others fs)) (plus-negative f) ∙ none-times D (numerator f (others fs))))
        ∙ e in
        factor D (denominator f (others fs)) (gathered fs) (times-comm (denominator f (others fs)) (gathered fs) ∙ a)
        (others_apart (others fs) (kept-pass elsewhere fs))

    cleared-zero : (fs : List (Fraction D)) (z : F) → ¬ (z ≡ f) → numerator z fs ≡ none → cleared fs z ≡ none
    unfolding cleared
    cleared-zero fs z m e =
        let P = split z fs in
        factor D P.unit (cleared fs z) (sym P.num-is ∙ ap (λ (y : F). (z ⊖ f) ⊗ y) e ∙ times_none D (z ⊖ f))
        (P.apart (λ q. m (no_difference D z f q)))

    pub few-zeros : (fs : List (Fraction D)) → ¬ (gathered fs ≡ none) →
        (zs : List F) → Distinct zs → All (λ z. numerator z fs ≡ none) zs → length zs ≤ length fs
    few-zeros fs m zs d h =
        let ws : List F = selected (is_not same f) zs in
        let few : length ws ≤ length (others fs) =
        by_le (length ws) (length (others fs)) (λ l. l)
        (λ l. absurd (m (cleared_at fs
        (poly-none D (suc (length (others fs))) (cleared fs) (poly-cleared fs) ws (kept-distinct (is_not same f) zs d) l
        (all_both (λ z k e. cleared-zero fs z (is-not same f z k) e) ws (kept-pass (is_not same f) zs)
        (kept-all (is_not same f) (λ z. numerator z fs ≡ none) zs h))
        f)))) in
        omega (arith, few, all_but_one same f zs d, others-fewer fs m)
