-- r (1 - r) = 0 mod p has no solution below p but 0 and 1, because p has no zero divisors.
use mathlib.Core.Logic.{◌⊎◌, inl, inr}
use mathlib.Core.Path.{◌≡◌, sym, ◌∙◌}
use Prim.Native.Nat.{ℕ, ◌+◌, ◌-◌, ◌%◌, ◌<◌, ◌≤◌}
use native.Mathlib.Nat.{mod-eq_of_lt}
use native.Mathlib.Omega.{arith}
use Rattle.lists.proofs.Then.{by_le}
use Rattle.field.specs.Field.{p, fsub}
use Rattle.field.proofs.Field.{mod-p}
use Rattle.field.proofs.Prime.{no-divisors}
use Rattle.templates.specs.Templates.{is_bit}

pub bit_is : (r : ℕ) → r < p → is_bit r ≡ 0 → r < 2
bit_is r l z = by_le 2 r (λ h. absurd (go h (no-divisors r (fsub 1 r) l (mod-p (1 + (p - r))) z))) (λ h. h)
  where
    go : 2 ≤ r → (r ≡ 0) ⊎ (fsub 1 r ≡ 0) → ⊥
    go h (inl e) = omega arith
    go h (inr e) =
        let s : 1 + (p - r) < p = omega arith in
        let q : 1 + (p - r) ≡ 0 = sym (mod-eq_of_lt s) ∙ e in
        omega arith
