-- A signed number mod p: what stands in its bits, and -1 - v where it is negative.
use mathlib.Core.Path.{◌≡◌, refl, sym, ap, ◌∙◌, subst}
use mathlib.Core.Bool.{true, false}
use Prim.Native.Nat.{ℕ, suc, ◌-◌, ◌≤◌, ◌<◌}
use native.Mathlib.Omega.{arith}
use borrow.Author.Tests.{le-ltb, leb-false}
use lib.Dec.{T, ltb}
use lib.IntN.{ℤ, pos, negsuc, nat_abs, ◌-ℤ◌}
use lib.Signed.{le_z, non_neg}
use mir.Syntax.{w64}
use mir.Val.{Fits, SFits, to_z, of_z}
use mir.ValLaws.{to_z-of_z}
use Rattle.lists.proofs.Tests.{true-not-false}
use Rattle.field.specs.Field.{p}
use Rattle.templates.specs.Templates.{const-signed}

-- y, which is not negative, is cast; and what the cast gives is z mod p
pub record Cast (y z : ℤ) : Type 0 where
  pub fits : SFits w64 y
  pub cast : T (non_neg y) × Fits w64 (nat_abs y)
  pub is : nat_abs y ≡ const-signed z
  pub below : nat_abs y < p

-- the same of -1 - z, from which p - 1 is taken
pub record Turned (y z : ℤ) : Type 0 where
  pub fits : SFits w64 y
  pub cast : T (non_neg y) × Fits w64 (nat_abs y)
  pub small : nat_abs y ≤ 18446744069414584320
  pub is : 18446744069414584320 - nat_abs y ≡ const-signed z
  pub below : 18446744069414584320 - nat_abs y < p

positive : (z : ℤ) → SFits w64 z → le_z (pos 0) z ≡ true → Cast z z
positive (pos n) f t = record { fits = f; cast = (tt, record { fits = omega (arith, f.sfits) }); is = refl; below = omega (arith, f.sfits) }
positive (negsuc n) f t = absurd (true-not-false (sym t))

-- -1 - -(n + 1) is n
flip : (n : ℕ) → negsuc 0 -ℤ negsuc n ≡ pos n
flip n =
    let e : ltb (suc n) 1 ≡ false = le-ltb (suc n) 1 (omega arith) in
    let q : suc n - 1 ≡ n = omega arith in
    rw e (ap pos q)

turned : (n : ℕ) → SFits w64 (negsuc n) → Turned (pos n) (negsuc n)
turned n f =
    let h = f.sfits in
    record {
      fits = record { sfits = h };
      cast = (tt, record { fits = omega (arith, h) });
      small = omega (arith, h);
      is = e n;
      below = omega (arith, h);
    }
  where
    e : (n : ℕ) → 18446744069414584320 - n ≡ p - suc n
    e n = omega arith

negative : (z : ℤ) → SFits w64 z → le_z (pos 0) z ≡ false → Turned (negsuc 0 -ℤ z) z
negative (pos n) f t = let h = leb-false 0 n t in absurd (omega (arith, h))
negative (negsuc n) f t = subst (λ (y : ℤ). Turned y (negsuc n)) (sym (flip n)) (turned n f)

-- by the bits
module _ (z : ℤ) (f : SFits w64 z) where
  abbrev pub held : ℤ
  held = to_z w64 (of_z w64 z)

  pub positive-held : le_z (pos 0) held ≡ true → Cast held z
  positive-held t = subst (λ (y : ℤ). Cast y z) (sym (to_z-of_z w64 z f)) (positive z f (ap (le_z (pos 0)) (sym (to_z-of_z w64 z f)) ∙ t))

  pub negative-held : le_z (pos 0) held ≡ false → Turned (negsuc 0 -ℤ held) z
  negative-held t = subst (λ (y : ℤ). Turned (negsuc 0 -ℤ y) z) (sym (to_z-of_z w64 z f)) (negative z f (ap (le_z (pos 0)) (sym (to_z-of_z w64 z f)) ∙ t))

  -- and held once more
  pub negative-again : le_z (pos 0) held ≡ false → Turned (to_z w64 (of_z w64 (negsuc 0 -ℤ held))) z
  negative-again t = let n = negative-held t in subst (λ (y : ℤ). Turned y z) (sym (to_z-of_z w64 (negsuc 0 -ℤ held) n.fits)) n
