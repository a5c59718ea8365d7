-- Operands that are made of their two words.
use mathlib.Core.Path.{◌≡◌, ap₂, ap}
use mathlib.Core.List.{[], ◌∷◌}
use Prim.Native.Nat.{ℕ, ◌+◌, ◌^◌}
use native.Mathlib.Omega.{arith}
use Rattle.templates.specs.declared.AddTerms.{AddTerms}
use Rattle.templates.specs.declared.AddKind.TheVariants.{Linear}
use Rattle.templates.specs.declared.AddOperand.{AddOperand}
use Rattle.templates.specs.Templates.{of, times}

pub operand : {a b c d : AddTerms} → a ≡ c → b ≡ d → ◌≡◌ {A = AddOperand} (record { kind = Linear; lo = a; hi = b }) (record { kind = Linear; lo = c; hi = d })
operand p q = ap₂ (λ (x y : AddTerms). record { kind = Linear; lo = x; hi = y }) p q

-- the columns of a high word, counted from its own first column and from the operand's
next : (k m n : ℕ) → k + m + n ≡ k + (m + n)
next k m n = omega arith

pub bytes_next : (k : ℕ) → of (times 1 (k + 4) ∷ times (2 ^ 8) (k + 4 + 1) ∷ times (2 ^ 16) (k + 4 + 2) ∷ times (2 ^ 24) (k + 4 + 3) ∷ [])
    ≡ of (times 1 (k + 4) ∷ times (2 ^ 8) (k + 5) ∷ times (2 ^ 16) (k + 6) ∷ times (2 ^ 24) (k + 7) ∷ [])
bytes_next k = rw (next k 4 1, next k 4 2, next k 4 3)
