-- The first that none beats, of an order in which not being beaten passes on: it is the best, there is one where there is
-- anything, and a running best finds it.
use mathlib.Core.Path.{◌≡◌, refl, sym, subst, ◌∙◌}
use mathlib.Core.Bool.{Bool, true, false, not}
use mathlib.Core.Option.{none, some}
use mathlib.Core.Logic.{◌↔◌}
use Prim.Native.Nat.{ℕ, zero, suc, ◌+◌, ◌-◌, ◌<◌}
use native.Mathlib.Numerals.{add-one}
use native.Mathlib.Omega.{arith}
use Rattle.lists.specs.Failure.{Separates}
use Rattle.lists.proofs.Failure.{at-some-iff, separates-any}
use Rattle.lists.proofs.First.{at-nothing}
use Rattle.lists.proofs.Kept.{by-eq}
use Rattle.lists.proofs.Tests.{true-not-false}
use Rattle.sort.proofs.Laws.{by-test}
use Rattle.month.specs.Month.{unbeaten, first_unbeaten, Best}

pub itself : (b : Bool) → Separates b (b ≡ true) (b ≡ false)
itself b = record { fails = λ e. e; holds = λ e. e; is_true = λ e. e; is_false = λ e. e }

turned : (b : Bool) {F H : Type 0} → Separates b F H → Separates (not b) H F
turned true s = record { fails = λ e. absurd (true-not-false (sym e)); holds = λ e. s.fails refl; is_true = λ h. sym (s.is_false h); is_false = λ f. refl }
turned false s = record { fails = λ e. s.holds refl; holds = λ e. absurd (true-not-false e); is_true = λ h. refl; is_false = λ f. sym (s.is_true f) }

module _ (beats : ℕ → ℕ → Bool) where
  separated : (n i : ℕ) → Separates (unbeaten beats n i) ((j : ℕ) → j < n → beats j i ≡ false) ((j : ℕ) × (j < n) × (beats j i ≡ true))
  unfolding unbeaten
  separated n i = turned _ (separates-any (λ j. beats j i) n (λ j l. itself (beats j i)))

  -- no two beat one another, and what does not beat one that does not beat a third does not beat the third
  module _ (turns : (i j : ℕ) → beats i j ≡ true → beats j i ≡ false) (passes : (i j k : ℕ) → beats i j ≡ false → beats j k ≡ false → beats i k ≡ false) where
    -- ---- it is the best, and the best is it
    pub first-is : (n k : ℕ) → (first_unbeaten beats n ≡ some k) ↔ Best beats n k
    unfolding first_unbeaten
    first-is n k = (
      (λ e.
          let f = (at-some-iff (unbeaten beats n) n (λ i l. separated n i) k).0 e in
          record {
            there = f.there;
            unbeaten = f.fails;
            earlier = λ j l.
                let x = f.lower j l in
                by-test (beats k j) (λ q. q) (λ q. absurd (true-not-false (sym x.2 ∙ passes x.0 k j (f.fails x.0 x.1) q)));
          }),
      λ b.
          (at-some-iff (unbeaten beats n) n (λ i l. separated n i) k).1
          (record { there = b.there; fails = b.unbeaten; lower = λ j l. (k, b.there, b.earlier j l) }),
    )

    -- ---- a running best
    self : (i : ℕ) → beats i i ≡ false
    self i = by-test (beats i i) (λ e. turns i i e) (λ e. e)

    pub best-start : Best beats 1 0
    best-start = record {
      there = omega arith;
      unbeaten = λ j l. let e : j ≡ 0 = omega arith in subst (λ (i : ℕ). beats i 0 ≡ false) (sym e) (self 0);
      earlier = λ j l. absurd (omega arith);
    }

    module _ {i k : ℕ} (b : Best beats i k) where
      -- the next does not beat it
      pub best-keep : beats i k ≡ false → Best beats (i + 1) k
      best-keep e = record { there = omega (arith, b.there); unbeaten = go; earlier = b.earlier }
        where
          go : (j : ℕ) → j < i + 1 → beats j k ≡ false
          go j l = by-eq j i (λ q. subst (λ (x : ℕ). beats x k ≡ false) (sym q) e) (λ q. b.unbeaten j (omega (arith, q)))

      -- the next beats it, and so all before
      pub best-take : beats i k ≡ true → Best beats (i + 1) i
      best-take e = record { there = omega arith; unbeaten = go; earlier = ahead }
        where
          go : (j : ℕ) → j < i + 1 → beats j i ≡ false
          go j l = by-eq j i (λ q. subst (λ (x : ℕ). beats x i ≡ false) (sym q) (self i)) (λ q. passes j k i (b.unbeaten j (omega (arith, q))) (turns i k e))

          ahead : (j : ℕ) → j < i → beats i j ≡ true
          ahead j l = by-test (beats i j) (λ q. q) (λ q. absurd (true-not-false (sym e ∙ passes i j k q (b.unbeaten j l))))

    -- ---- there is one, where there is anything
    pub best_of : (n : ℕ) → (k : ℕ) × Best beats (n + 1) k
    best_of zero = (0, best-start)
    best_of (suc n) =
        let x = best_of n in
        subst (λ (m : ℕ). (k : ℕ) × Best beats (m + 1) k) (add-one n)
        (by-test (beats (n + 1) x.0) (λ e. (n + 1, best-take x.1 e)) (λ e. (x.0, best-keep x.1 e)))

    pub one-unbeaten : (n : ℕ) → 0 < n → (k : ℕ) × (first_unbeaten beats n ≡ some k)
    one-unbeaten n h =
        let e : n - 1 + 1 ≡ n = omega arith in
        let x = subst (λ (m : ℕ). (k : ℕ) × Best beats m k) e (best_of (n - 1)) in
        (x.0, (first-is n x.0).1 x.1)

-- of nothing there is none
pub none-unbeaten : (beats : ℕ → ℕ → Bool) → first_unbeaten beats 0 ≡ none
unfolding first_unbeaten
none-unbeaten beats = at-nothing (unbeaten beats 0) 0 (λ k l. absurd (omega arith))
