-- The words of an operand by its kind.
use mathlib.Core.Path.{◌≡◌, sym, ap, subst, ◌∙◌}
use mathlib.Core.List.{List}
use Prim.Native.Nat.{ℕ, ◌+◌, ◌%◌, ◌<◌}
use native.Mathlib.Nat.{mod-eq_of_lt, mul-one, add-zero}
use lib.IntN.{ℤ, pos}
use lib.ListN.{length}
use Rattle.lists.specs.Tab.{word}
use Rattle.field.specs.Field.{p, fadd}
use Rattle.templates.specs.declared.AddLinearTerm.{AddLinearTerm}
use Rattle.templates.specs.declared.AddLinearTerm.TheVariants.{Column, Constant}
use Rattle.templates.specs.declared.AddTerms.{AddTerms}
use Rattle.templates.specs.declared.AddKind.{AddKind}
use Rattle.templates.specs.declared.AddKind.TheVariants.{DWordWL, Linear}
use Rattle.templates.specs.declared.AddOperand.{AddOperand}
use Rattle.templates.specs.Templates.{add-term-expr, add-terms-expr, add-operand-lo, add-operand-hi}
use Rattle.add_template.specs.Within.{TermIn, TermsIn, KindIn, OperandIn}

module _ (row : List ℕ) where
  pub column-in : {t : AddLinearTerm} {v : _} {k : ℕ} → t ≡ Column v k → TermIn row t → (k < length row) × (word row k < p)
  unfolding TermIn
  column-in e h = subst (TermIn row) e h

  module _ (o : AddOperand) (h : OperandIn row o) where
    pub pair-in : {k : ℕ} → o.kind ≡ DWordWL k → (k + 1 < length row) × (word row k < p) × (word row (k + 1) < p)
    unfolding KindIn
    pair-in e = subst (λ (d : AddKind). KindIn row d o.lo o.hi) e h

    pub terms-in : o.kind ≡ Linear → TermsIn row o.lo × TermsIn row o.hi
    unfolding KindIn
    terms-in e = subst (λ (d : AddKind). KindIn row d o.lo o.hi) e h

  module _ (o : AddOperand) where
    pub lo-of : {d : AddKind} → o.kind ≡ d → add-operand-lo row o ≡ elim d as (λ _. ℕ) [ DWordWL k ↦ word row k | Linear ↦ add-terms-expr row o.lo ]
    lo-of e = ap (λ (d : AddKind). elim d as (λ _. ℕ) [ DWordWL k ↦ word row k | Linear ↦ add-terms-expr row o.lo ]) e

    pub hi_of : {d : AddKind} → o.kind ≡ d → add-operand-hi row o ≡ elim d as (λ _. ℕ) [ DWordWL k ↦ word row (k + 1) | Linear ↦ add-terms-expr row o.hi ]
    hi_of e = ap (λ (d : AddKind). elim d as (λ _. ℕ) [ DWordWL k ↦ word row (k + 1) | Linear ↦ add-terms-expr row o.hi ]) e

  pub term_of : {t u : AddLinearTerm} → t ≡ u → add-term-expr row u ≡ add-term-expr row t
  term_of e = sym (ap (add-term-expr row) e)

  -- a column whose coefficient is 1, and a term that is not used
  pub one-times : {t : AddLinearTerm} {v : ℤ} {k : ℕ} → t ≡ Column v k → v ≡ pos 1 → word row k < p → word row k ≡ add-term-expr row t
  one-times {k = k} e f h = sym (ap (λ (x : ℕ). x % p) (mul-one (word row k)) ∙ mod-eq_of_lt h) ∙ sym (ap (add-term-expr row) (e ∙ ap (λ (v : ℤ). Column v k) f))

  pub no-term : {t : AddLinearTerm} {v : ℤ} {x : ℕ} → t ≡ Constant v → v ≡ pos 0 → x < p → x ≡ fadd x (add-term-expr row t)
  no-term {x = x} e f h = sym (ap (λ (y : ℕ). y % p) (add-zero x) ∙ mod-eq_of_lt h) ∙ sym (ap (λ (t : AddLinearTerm). fadd x (add-term-expr row t)) (e ∙ ap Constant f))

  -- the four terms, summed one after the other
  pub four-terms : (ts : AddTerms) {a b c d : ℕ} → a ≡ fadd 0 (add-term-expr row ts.t0) → b ≡ fadd a (add-term-expr row ts.t1) → c ≡ fadd b (add-term-expr row ts.t2)
      → d ≡ fadd c (add-term-expr row ts.t3) → d ≡ add-terms-expr row ts
  unfolding add-terms-expr
  four-terms ts p q r s =
      s ∙ ap (λ (x : ℕ). fadd x (add-term-expr row ts.t3))
      (r ∙ ap (λ (x : ℕ). fadd x (add-term-expr row ts.t2)) (q ∙ ap (λ (x : ℕ). fadd x (add-term-expr row ts.t1)) p))
