-- Laws of tests by their value: `&&`, and what is neither true nor false.
--     T_of, T-true (of Then)     from `b ≡ true` to T b and back
--     and-true, true-and         a conjunction is true exactly where both are
--     false-and, and-false       it is false where the second is, given the first
use mathlib.Core.Path.{◌≡◌, refl, sym, subst}
use mathlib.Core.Bool.{Bool, true, false, ◌&&◌}
use native.Mathlib.Omega.{arith}
use Prim.Native.Nat.{ℕ}
use lib.Dec.{T}

pub true-not-false : true ≡ false → ⊥
true-not-false e = let z : ◌≡◌ {A = ℕ} 0 1 = cc in omega arith

pub not-true : (b : Bool) → (b ≡ true → ⊥) → b ≡ false
not-true true h = absurd (h refl)
not-true false h = refl

pub T_of : (b : Bool) → b ≡ true → T b
T_of b e = subst T (sym e) tt

pub and-true : (a b : Bool) → (a && b) ≡ true → (a ≡ true) × (b ≡ true)
and-true true b e = (refl, e)
and-true false b e = absurd (true-not-false (sym e))

pub true-and : (a b : Bool) → a ≡ true → b ≡ true → (a && b) ≡ true
true-and true b e f = f
true-and false b e f = absurd (true-not-false (sym e))

pub false-and : (a b : Bool) → (a ≡ true → b ≡ false) → (a && b) ≡ false
false-and true b h = h refl
false-and false b h = refl

pub and-false : (a b : Bool) → (a && b) ≡ false → a ≡ true → b ≡ false
and-false true b e f = e
and-false false b e f = absurd (true-not-false (sym f))
