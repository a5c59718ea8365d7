-- What is selected from a list without repetition: its own laws, and how many there are.
--     kept-distinct, kept-all, kept-pass    no repetition, what holds of all, and the test
--     kept-few                              at most n, where no longer list without repetition passes
--     kept_either                           those that pass one of two tests
--     all_but_one                           a list without repetition, and without one element
use mathlib.Core.Path.{◌≡◌, refl, sym, ap, ◌∙◌}
use mathlib.Core.Bool.{Bool, true, false, not, ◌||◌}
use mathlib.Core.List.{List, [], ◌∷◌}
use Prim.Native.Nat.{ℕ, zero, suc, ◌+◌, ◌≤◌}
use native.Mathlib.Omega.{arith}
use lib.ListN.{length}
use Rattle.lists.proofs.Tests.{true-not-false}
use Rattle.lists.specs.Select.{cons_if, selected}
use Rattle.challenge.specs.Check.{All, Distinct, decided}

pub decided-true : {X : Type 0} (d : Dec X) → decided d ≡ true → X
decided-true (yes x) e = x
decided-true (no n) e = absurd (true-not-false (sym e))

pub decided-false : {X : Type 0} (d : Dec X) → decided d ≡ false → ¬ X
decided-false (yes x) e = absurd (true-not-false e)
decided-false (no n) e = n

pub is-decided : {X : Type 0} (d : Dec X) → X → decided d ≡ true
is-decided (yes x) h = refl
is-decided (no n) h = absurd (n h)

pub not-decided : {X : Type 0} (d : Dec X) → ¬ X → decided d ≡ false
not-decided (yes x) h = absurd (h x)
not-decided (no n) h = refl

module _ {A : Type 0} where
  pub all_map : {P Q : A → Type 0} → ((x : A) → P x → Q x) → (xs : List A) → All P xs → All Q xs
  all_map f [] h = tt
  all_map f (x ∷ xs) h = (f x h.0, all_map f xs h.1)

  pub all_both : {P Q R : A → Type 0} → ((x : A) → P x → Q x → R x) → (xs : List A) → All P xs → All Q xs → All R xs
  all_both f [] h k = tt
  all_both f (x ∷ xs) h k = (f x h.0 k.0, all_both f xs h.1 k.1)

  pub kept-none : (xs : List A) → length (selected (λ x. false) xs) ≡ 0
  unfolding selected
  kept-none [] = refl
  kept-none (x ∷ xs) = kept-none xs

  module _ (t : A → Bool) where
    pub kept-all : (P : A → Type 0) (xs : List A) → All P xs → All P (selected t xs)
    unfolding selected
    kept-all P [] h = tt
    kept-all P (x ∷ xs) h = go (t x) (kept-all P xs h.1)
      where
        go : (b : Bool) → All P (selected t xs) → All P (cons_if b x (selected t xs))
        go true k = (h.0, k)
        go false k = k

    pub kept-distinct : (xs : List A) → Distinct xs → Distinct (selected t xs)
    unfolding selected
    kept-distinct [] d = tt
    kept-distinct (x ∷ xs) d = go (t x) (kept-distinct xs d.1)
      where
        go : (b : Bool) → Distinct (selected t xs) → Distinct (cons_if b x (selected t xs))
        go true k = (kept-all (λ y. ¬ (y ≡ x)) xs d.0, k)
        go false k = k

    pub kept-pass : (xs : List A) → All (λ x. t x ≡ true) (selected t xs)
    unfolding selected
    kept-pass [] = tt
    kept-pass (x ∷ xs) = go (t x) refl (kept-pass xs)
      where
        go : (b : Bool) → t x ≡ b → All (λ x. t x ≡ true) (selected t xs) → All (λ x. t x ≡ true) (cons_if b x (selected t xs))
        go true e k = (e, k)
        go false e k = k

    pub kept-few : (n : ℕ) → ((xs : List A) → Distinct xs → All (λ x. t x ≡ true) xs → length xs ≤ n) →
        (xs : List A) → Distinct xs → length (selected t xs) ≤ n
    kept-few n h xs d = h (selected t xs) (kept-distinct xs d) (kept-pass xs)

    pub kept_less : (xs : List A) → length (selected t xs) ≤ length xs
    unfolding selected
    kept_less [] = omega arith
    kept_less (x ∷ xs) = go (t x) (kept_less xs)
      where
        go : (b : Bool) → length (selected t xs) ≤ length xs → length (cons_if b x (selected t xs)) ≤ suc (length xs)
        go true l = omega arith
        go false l = omega arith

  pub kept_either : (s t : A → Bool) (xs : List A) →
      length (selected (λ x. s x || t x) xs) ≤ length (selected s xs) + length (selected t xs)
  unfolding selected
  kept_either s t [] = omega arith
  kept_either s t (x ∷ xs) = go (s x) (t x) (kept_either s t xs)
    where
      go : (b c : Bool) → length (selected (λ x. s x || t x) xs) ≤ length (selected s xs) + length (selected t xs) →
          length (cons_if (b || c) x (selected (λ x. s x || t x) xs)) ≤ length (cons_if b x (selected s xs)) + length (cons_if c x (selected t xs))
      go true true l = omega arith
      go true false l = omega arith
      go false true l = omega arith
      go false false l = l

  -- no element but y is left out
  module _ (same : (a b : A) → Dec (a ≡ b)) (y : A) where
    abbrev pub is_not : A → Bool
    is_not x = not (decided (same x y))

    pub is-not : (x : A) → is_not x ≡ true → ¬ (x ≡ y)
    is-not x e = go (same x y) e
      where
        go : (d : Dec (x ≡ y)) → not (decided d) ≡ true → ¬ (x ≡ y)
        go (yes q) e = absurd (true-not-false (sym e))
        go (no n) e = n

    whole : (xs : List A) → All (λ x. ¬ (x ≡ y)) xs → selected is_not xs ≡ xs
    unfolding selected
    whole [] h = refl
    whole (x ∷ xs) h = go (same x y) (whole xs h.1)
      where
        go : (d : Dec (x ≡ y)) → selected is_not xs ≡ xs → cons_if (not (decided d)) x (selected is_not xs) ≡ x ∷ xs
        go (yes q) e = absurd (h.0 q)
        go (no n) e = ap (λ (l : List A). x ∷ l) e

    pub all_but_one : (xs : List A) → Distinct xs → length xs ≤ suc (length (selected is_not xs))
    unfolding selected
    all_but_one [] d = omega arith
    all_but_one (x ∷ xs) d = go (same x y) (all_but_one xs d.1)
      where
        go : (e : Dec (x ≡ y)) → length xs ≤ suc (length (selected is_not xs)) →
            suc (length xs) ≤ suc (length (cons_if (not (decided e)) x (selected is_not xs)))
        go (yes q) l = omega (arith, ap length (whole xs (all_map (λ z n e. n (e ∙ sym q)) xs d.0)))
        go (no n) l = omega arith
