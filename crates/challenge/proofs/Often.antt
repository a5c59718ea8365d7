-- How many pairs pass where the sums agree, and that they agree exactly where many pass.
--     most-pass    all but |A|·n, where they agree
--     exactly      they agree exactly where more than n·(K + 1)·q of q·q pairs pass, for q above n·(K + 2)
use mathlib.Core.Path.{◌≡◌, refl, sym, ap, ◌∙◌}
use mathlib.Core.Bool.{Bool, true, false, not, ◌||◌}
use mathlib.Core.List.{List, [], ◌∷◌}
use mathlib.Core.Logic.{◌↔◌}
use Prim.Native.Nat.{ℕ, zero, suc, ◌+◌, ◌*◌, ◌%◌, ◌≤◌, ◌<◌}
use native.Mathlib.Nat.{mul-le-mul_right}
use native.Mathlib.Omega.{arith}
use lib.ListN.{length}
use Rattle.lists.specs.Select.{cons_if, selected}
use Rattle.lists.proofs.Tests.{true-not-false}
use Rattle.challenge.specs.Domain.{Domain}
use Rattle.challenge.specs.Check.{All, Distinct, decided, Entry, AllFit, TotalsAgree, passes, passing, fingerprint as fingerprintOf}
use Rattle.challenge.proofs.Kept.{kept-few, kept_either, kept-none, decided-true, decided-false}
use Rattle.challenge.proofs.Gathered.{or-false}
use Rattle.challenge.proofs.Complete.{agree-pass}
use Rattle.challenge.proofs.Bound.{sums-agree}

module _ {p : ℕ} (D : Domain p) where
  open D use {F, none, same, number}

  -- whether z is the fingerprint of an entry
  among : F → List Entry → F → Bool
  among α [] z = false
  among α (e ∷ es) z = decided (same z (fingerprintOf D α e.words)) || among α es z

  away : (α z : F) (es : List Entry) → among α es z ≡ false → All (λ e. ¬ (z ≡ fingerprintOf D α e.words)) es
  unfolding among
  away α z [] q = tt
  away α z (e ∷ es) q =
      let k = or-false (decided (same z (fingerprintOf D α e.words))) (among α es z) q in
      (decided-false (same z (fingerprintOf D α e.words)) k.0, away α z es k.1)

  one_at_most : (f : F) (zs : List F) → Distinct zs → All (λ z. decided (same z f) ≡ true) zs → length zs ≤ 1
  one_at_most f [] d h = omega arith
  one_at_most f (z ∷ []) d h = omega arith
  one_at_most f (z ∷ y ∷ zs) d h = absurd (d.0.0 (decided-true (same y f) h.1.0 ∙ sym (decided-true (same z f) h.0)))

  few-among : (α : F) (es : List Entry) (Z : List F) → Distinct Z → length (selected (among α es) Z) ≤ length es
  unfolding among
  few-among α [] Z d = omega (arith, kept-none Z)
  few-among α (e ∷ es) Z d =
      omega (
        arith,
        kept_either (λ z. decided (same z (fingerprintOf D α e.words))) (among α es) Z,
        kept-few (λ z. decided (same z (fingerprintOf D α e.words))) 1 (one_at_most (fingerprintOf D α e.words)) Z d,
        few-among α es Z d,
      )

  module _ (wraps : number p ≡ none) (es : List Entry) where
    covered : TotalsAgree p es → (α : F) (Z : List F) → length Z ≤ length (selected (passes D es α) Z) + length (selected (among α es) Z)
    unfolding selected
    covered h α [] = omega arith
    covered h α (z ∷ Z) = go (passes D es α z) (among α es z) refl refl (covered h α Z)
      where
        go : (b c : Bool) → passes D es α z ≡ b → among α es z ≡ c →
            length Z ≤ length (selected (passes D es α) Z) + length (selected (among α es) Z) →
            suc (length Z) ≤ length (cons_if b z (selected (passes D es α) Z)) + length (cons_if c z (selected (among α es) Z))
        go true true q r l = omega arith
        go true false q r l = omega arith
        go false true q r l = omega arith
        go false false q r l = absurd (true-not-false (sym (agree-pass D wraps es h α z (away α z es r)) ∙ q))

    pub most-pass : TotalsAgree p es → (A Z : List F) → Distinct Z → length A * length Z ≤ passing D es A Z + length A * length es
    unfolding passing
    most-pass h [] Z d = omega arith
    most-pass h (α ∷ A) Z d = omega (arith, most-pass h A Z d, covered h α Z, few-among α es Z d)

    pub exactly : (width : ℕ → ℕ) (K : ℕ) → AllFit p width K es → (A Z : List F) → Distinct A → Distinct Z → (q : ℕ) → length A ≡ q → length Z ≡ q →
        length es * suc (suc K) < q → TotalsAgree p es ↔ (length es * suc K * q < passing D es A Z)
    exactly width K fit A Z dA dZ q a b l = (
      (λ h. many (passing D es A Z) (length es) (counted (most-pass h A Z dZ)) l),
      (λ h. sums-agree D width K es fit A Z dA dZ (few (length es) (passing D es A Z) h)),
    )
      where
        counted : length A * length Z ≤ passing D es A Z + length A * length es → q * q ≤ passing D es A Z + q * length es
        counted h = rw (a, b) at h

        many : (m n : ℕ) → q * q ≤ m + q * n → n * suc (suc K) < q → n * suc K * q < m
        many m n h l = omega (arith, mul-le-mul_right q l)

        few : (n m : ℕ) → n * suc K * q < m → n * K * length Z + length A * n < m
        few n m h = rw (a, b) (omega arith)
