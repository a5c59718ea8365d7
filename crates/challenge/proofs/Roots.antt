-- A polynomial with as many roots as coefficients is none: every coefficient is 0.
--     divided       division by x − r, r a root or not
--     roots-none    the coefficients, from the roots
use mathlib.Core.Path.{◌≡◌, refl, sym, ap, ap₂, ◌∙◌}
use mathlib.Core.List.{List, [], ◌∷◌}
use Prim.Native.Nat.{ℕ, zero, suc, ◌≤◌}
use native.Mathlib.Nat.{le_of_suc-le-suc, not-suc-le-zero}
use lib.ListN.{length}
use Rattle.challenge.specs.Domain.{Domain}
use Rattle.challenge.specs.Check.{All, Distinct, eval as evalAt, ◌⊖◌ as minus}
use Rattle.challenge.proofs.Kept.{all_both}
use Rattle.challenge.proofs.Ring.{none-plus, times_none, rejoin, no_difference, factor, divide-step}

module _ {p : ℕ} (D : Domain p) where
  infixl 65 ◌⊕◌
  infixl 65 ◌⊖◌
  infixl 70 ◌⊗◌
  open D use {F, plus as ◌⊕◌, times as ◌⊗◌, none, plus_assoc, plus_none}

  abbrev ◌⊖◌ : F → F → F
  a ⊖ b = minus D a b

  abbrev eval : List F → F → F
  eval cs x = evalAt D cs x

  -- (c + x·C(x) − (c + r·C(r))) / (x − r), from the coefficients of C
  pub quotient : F → List F → List F
  quotient r [] = []
  quotient r (c ∷ cs) = eval (c ∷ cs) r ∷ quotient r cs

  quotient-length : (r : F) (cs : List F) → length (quotient r cs) ≡ length cs
  unfolding quotient
  quotient-length r [] = refl
  quotient-length r (c ∷ cs) = ap suc (quotient-length r cs)

  pub divided : (cs : List F) (x r : F) → x ⊗ eval cs x ≡ r ⊗ eval cs r ⊕ (x ⊖ r) ⊗ eval (quotient r cs) x
  unfolding quotient evalAt
  divided [] x r = times_none D x ∙ sym (ap₂ ◌⊕◌ (times_none D r) (times_none D (x ⊖ r)) ∙ plus_none none)
  divided (c ∷ cs) x r =
      ap (λ (y : F). x ⊗ (c ⊕ y)) (divided cs x r)
      ∙ divide-step D x r (x ⊖ r) c (r ⊗ eval cs r) (eval (quotient r cs) x) (rejoin D x r)

  pub eval-none : (cs : List F) → All (λ c. c ≡ none) cs → (x : F) → eval cs x ≡ none
  unfolding evalAt
  eval-none [] h x = refl
  eval-none (c ∷ cs) h x = ap₂ ◌⊕◌ h.0 (ap (λ (y : F). x ⊗ y) (eval-none cs h.1 x) ∙ times_none D x) ∙ plus_none none

  -- the first coefficient is none where the value and the others are
  first-none : (c r : F) (cs : List F) → All (λ c. c ≡ none) cs → eval (c ∷ cs) r ≡ none → c ≡ none
  unfolding evalAt
  first-none c r cs h e = sym (plus_none c) ∙ ap (λ (y : F). c ⊕ y) (sym (times_none D r) ∙ ap (λ (y : F). r ⊗ y) (sym (eval-none cs h r))) ∙ e

  unquotient : (r : F) (cs : List F) → All (λ c. c ≡ none) (quotient r cs) → All (λ c. c ≡ none) cs
  unfolding quotient
  unquotient r [] h = tt
  unquotient r (c ∷ cs) h = let hs = unquotient r cs h.1 in (first-none c r cs hs h.0, hs)

  -- another root is one of the quotient
  other-root : (c z y : F) (cs : List F) → eval (c ∷ cs) z ≡ none → ¬ (y ≡ z) → eval (c ∷ cs) y ≡ none → eval (quotient z cs) y ≡ none
  unfolding evalAt
  other-root c z y cs e n h =
      factor D (y ⊖ z) (eval (quotient z cs) y)
      (sym (none-plus D ((y ⊖ z) ⊗ eval (quotient z cs) y))
      ∙ ap (λ (s : F). s ⊕ (y ⊖ z) ⊗ eval (quotient z cs) y) (sym e)
      ∙ plus_assoc c (z ⊗ eval cs z) ((y ⊖ z) ⊗ eval (quotient z cs) y)
      ∙ ap (λ (s : F). c ⊕ s) (sym (divided cs y z))
      ∙ h)
      (λ q. n (no_difference D y z q))

  pub roots-none : (zs cs : List F) → Distinct zs → length cs ≤ length zs → All (λ z. eval cs z ≡ none) zs → All (λ c. c ≡ none) cs
  roots-none [] [] d l h = tt
  roots-none [] (c ∷ cs) d l h = absurd (not-suc-le-zero l)
  roots-none (z ∷ zs) [] d l h = tt
  roots-none (z ∷ zs) (c ∷ cs) d l h =
      let hs : All (λ c. c ≡ none) cs =
      unquotient z cs
      (roots-none zs (quotient z cs) d.1 (rw (quotient-length z cs) (le_of_suc-le-suc l))
      (all_both (λ y n e. other-root c z y cs h.0 n e) zs d.0 h.1)) in
      (first-none c z cs hs h.0, hs)
