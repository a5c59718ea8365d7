-- Functions that are polynomials with at most n coefficients.
--     poly-plus, poly-scale, poly-linear    sums, multiples, and the product with x − r
--     poly-none                             with n roots such a function is none everywhere
use mathlib.Core.Path.{◌≡◌, refl, sym, ap, ap₂, ◌∙◌}
use mathlib.Core.List.{List, [], ◌∷◌}
use Prim.Native.Nat.{ℕ, zero, suc, ◌≤◌, suc-le-suc}
use native.Mathlib.Nat.{le_of_suc-le-suc, not-suc-le-zero}
use native.Mathlib.Omega.{arith}
use lib.ListN.{length}
use Rattle.challenge.specs.Domain.{Domain}
use Rattle.challenge.specs.Check.{All, Distinct, eval as evalAt, ◌⊖◌ as minus}
use Rattle.challenge.proofs.Kept.{all_map}
use Rattle.challenge.proofs.Ring.{none-plus, times_none, plus_times, plus-left-comm, times-left-comm}
use Rattle.challenge.proofs.Roots.{roots-none, eval-none}

module _ {p : ℕ} (D : Domain p) where
  infixl 65 ◌⊕◌
  infixl 65 ◌⊖◌
  infixl 70 ◌⊗◌
  open D use {F, plus as ◌⊕◌, times as ◌⊗◌, negative, none, one, plus_assoc, plus_none, plus_comm, times-plus, times-comm}

  abbrev ◌⊖◌ : F → F → F
  a ⊖ b = minus D a b

  abbrev eval : List F → F → F
  eval cs x = evalAt D cs x

  -- ---- by coefficients
  unfoldable pub sum_of : List F → List F → List F
  sum_of [] ds = ds
  sum_of (c ∷ cs) [] = c ∷ cs
  sum_of (c ∷ cs) (d ∷ ds) = (c ⊕ d) ∷ sum_of cs ds

  unfoldable pub scaled : F → List F → List F
  scaled a [] = []
  scaled a (c ∷ cs) = (a ⊗ c) ∷ scaled a cs

  pub sum-few : (n : ℕ) (cs ds : List F) → length cs ≤ n → length ds ≤ n → length (sum_of cs ds) ≤ n
  unfolding sum_of
  sum-few n [] ds k l = l
  sum-few n (c ∷ cs) [] k l = k
  sum-few zero (c ∷ cs) (d ∷ ds) k l = absurd (not-suc-le-zero k)
  sum-few (suc n) (c ∷ cs) (d ∷ ds) k l = suc-le-suc (sum-few n cs ds (le_of_suc-le-suc k) (le_of_suc-le-suc l))

  pub scaled-length : (a : F) (cs : List F) → length (scaled a cs) ≡ length cs
  unfolding scaled
  scaled-length a [] = refl
  scaled-length a (c ∷ cs) = ap suc (scaled-length a cs)

  pub eval-sum : (cs ds : List F) (x : F) → eval (sum_of cs ds) x ≡ eval cs x ⊕ eval ds x
  unfolding sum_of evalAt
  eval-sum [] ds x = sym (none-plus D (eval ds x))
  eval-sum (c ∷ cs) [] x = sym (plus_none (c ⊕ x ⊗ eval cs x))
  eval-sum (c ∷ cs) (d ∷ ds) x =
      let m : c ⊕ d ⊕ x ⊗ (eval cs x ⊕ eval ds x) ≡ c ⊕ x ⊗ eval cs x ⊕ (d ⊕ x ⊗ eval ds x) =
      simp (times-plus, plus_assoc, plus-left-comm D) in
      ap (λ (y : F). c ⊕ d ⊕ x ⊗ y) (eval-sum cs ds x) ∙ m

  pub eval-scaled : (a : F) (cs : List F) (x : F) → eval (scaled a cs) x ≡ a ⊗ eval cs x
  unfolding scaled evalAt
  eval-scaled a [] x = sym (times_none D a)
  eval-scaled a (c ∷ cs) x =
      let m : a ⊗ c ⊕ x ⊗ (a ⊗ eval cs x) ≡ a ⊗ (c ⊕ x ⊗ eval cs x) = simp (times-plus, times-left-comm D) in
      ap (λ (y : F). a ⊗ c ⊕ x ⊗ y) (eval-scaled a cs x) ∙ m

  -- ---- as functions
  pub record Poly (n : ℕ) (g : F → F) : Type 0 where
    pub coefficients : List F
    pub few : length coefficients ≤ n
    pub values : (x : F) → eval coefficients x ≡ g x

  pub poly-plus : (n : ℕ) (g h : F → F) → Poly n g → Poly n h → Poly n (λ x. g x ⊕ h x)
  poly-plus n g h P Q = record {
    coefficients = sum_of P.coefficients Q.coefficients;
    few = sum-few n P.coefficients Q.coefficients P.few Q.few;
    values = λ x. eval-sum P.coefficients Q.coefficients x ∙ ap₂ ◌⊕◌ (P.values x) (Q.values x);
  }

  pub poly-scale : (n : ℕ) (a : F) (g : F → F) → Poly n g → Poly n (λ x. a ⊗ g x)
  poly-scale n a g P = record {
    coefficients = scaled a P.coefficients;
    few = rw (scaled-length a P.coefficients) P.few;
    values = λ x. eval-scaled a P.coefficients x ∙ ap (λ (y : F). a ⊗ y) (P.values x);
  }

  poly-shift : (n : ℕ) (g : F → F) → Poly n g → Poly (suc n) (λ x. x ⊗ g x)
  unfolding evalAt
  poly-shift n g P = record {
    coefficients = none ∷ P.coefficients;
    few = suc-le-suc P.few;
    values = λ x. none-plus D (x ⊗ eval P.coefficients x) ∙ ap (λ (y : F). x ⊗ y) (P.values x);
  }

  poly-up : (n : ℕ) (g : F → F) → Poly n g → Poly (suc n) g
  poly-up n g P = record { coefficients = P.coefficients; few = omega (arith, P.few); values = P.values }

  poly-same : (n : ℕ) (g h : F → F) → ((x : F) → g x ≡ h x) → Poly n g → Poly n h
  poly-same n g h e P = record { coefficients = P.coefficients; few = P.few; values = λ x. P.values x ∙ e x }

  pub poly-linear : (n : ℕ) (r : F) (g : F → F) → Poly n g → Poly (suc n) (λ x. (x ⊖ r) ⊗ g x)
  poly-linear n r g P =
      poly-same (suc n) (λ x. x ⊗ g x ⊕ negative r ⊗ g x) (λ x. (x ⊖ r) ⊗ g x) (λ x. sym (plus_times D x (negative r) (g x)))
      (poly-plus (suc n) (λ x. x ⊗ g x) (λ x. negative r ⊗ g x)
      (poly-shift n g P) (poly-up n (λ x. negative r ⊗ g x) (poly-scale n (negative r) g P)))

  pub poly-one : Poly 1 (λ x. one)
  unfolding evalAt
  poly-one = record {
    coefficients = one ∷ [];
    few = omega arith;
    values = λ x. ap (λ (y : F). one ⊕ y) (times_none D x) ∙ plus_none one;
  }

  pub poly-zero : Poly 0 (λ x. none)
  unfolding evalAt
  poly-zero = record { coefficients = []; few = omega arith; values = λ x. refl }

  -- with as many roots as coefficients it is none everywhere
  pub poly-none : (n : ℕ) (g : F → F) → Poly n g → (zs : List F) → Distinct zs → n ≤ length zs → All (λ z. g z ≡ none) zs → (x : F) → g x ≡ none
  poly-none n g P zs d l h x =
      sym (P.values x)
      ∙ eval-none D P.coefficients
      (roots-none D zs P.coefficients d (omega (arith, P.few, l)) (all_map (λ z e. P.values z ∙ e) zs h))
      x
