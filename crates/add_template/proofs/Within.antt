-- The operands and conditions that a row has room for: what the callers of the templates have to know of it.
use mathlib.Core.Path.{◌≡◌, sym, subst}
use mathlib.Core.List.{List}
use Prim.Native.Nat.{ℕ, ◌+◌, ◌^◌, ◌≤◌, ◌<◌}
use native.Mathlib.Omega.{arith}
use lib.IntN.{ℤ}
use Rattle.field.specs.Elements.{ElementRow}
use Rattle.templates.specs.declared.AddOperand.{AddOperand}
use Rattle.templates.specs.declared.Cond.TheVariants.{Always, When}
use Rattle.templates.specs.Templates.{times, dword, constant, from-dword-whh, from-dword-bl}
use Rattle.add_template.specs.Within.{TermIn, TermsIn, KindIn, OperandIn}
use Rattle.add_template.specs.Conditions.{CondIn}

module _ (row : List ℕ) where
  pub always-in : CondIn row Always
  unfolding CondIn
  always-in = tt

  pub constant-in : (v : ℤ) → OperandIn row (constant v)
  unfolding KindIn TermsIn TermIn
  constant-in v = ((tt, tt, tt, tt), (tt, tt, tt, tt))

  module _ (n : ℕ) (e : ElementRow n row) where
    pub when-in : (c : ℕ) → c < n → CondIn row (When c)
    unfolding CondIn
    when-in c h = (omega (arith, e.long), e.below c h)

    column-in : (c k : ℕ) → k < n → TermIn row (times c k)
    unfolding TermIn
    column-in c k h = (omega (arith, e.long), e.below k h)

    module _ (k : ℕ) where
      pub dword-in : k + 2 ≤ n → OperandIn row (dword k)
      unfolding KindIn
      dword-in h = (omega (arith, e.long), e.below k (omega arith), e.below (k + 1) (omega arith))

      pub whh-in : k + 3 ≤ n → OperandIn row (from-dword-whh k)
      unfolding KindIn TermsIn TermIn
      whh-in h = ((column-in 1 k (omega arith), column-in (2 ^ 16) (k + 1) (omega arith), tt, tt), (column-in 1 (k + 2) (omega arith), tt, tt, tt))

      pub bl-in : k + 8 ≤ n → OperandIn row (from-dword-bl k)
      unfolding KindIn TermsIn
      bl-in h = (
        (column-in 1 k (omega arith), column-in (2 ^ 8) (k + 1) (omega arith), column-in (2 ^ 16) (k + 2) (omega arith), column-in (2 ^ 24) (k + 3) (omega arith)),
        (column-in 1 (k + 4) (omega arith), column-in (2 ^ 8) (k + 5) (omega arith), column-in (2 ^ 16) (k + 6) (omega arith), column-in (2 ^ 24) (k + 7) (omega arith)),
      )

  -- an operand that a constructor made
  pub made_in : {o made : AddOperand} → made ≡ o → OperandIn row o → OperandIn row made
  made_in e h = subst (OperandIn row) (sym e) h
