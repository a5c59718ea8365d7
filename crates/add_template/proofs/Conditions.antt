-- A bit under a condition, by its kind.
use mathlib.Core.Path.{◌≡◌, refl, sym, ap, subst, ◌∙◌}
use mathlib.Core.List.{List}
use Prim.Native.Nat.{ℕ, ◌%◌, ◌<◌}
use native.Mathlib.Nat.{mod-eq_of_lt, zero-add}
use lib.ListN.{length}
use Rattle.lists.specs.Tab.{word}
use Rattle.field.specs.Field.{p}
use Rattle.templates.specs.declared.Cond.{Cond}
use Rattle.templates.specs.declared.Cond.TheVariants.{Always, When}
use Rattle.templates.specs.Templates.{is_bit, is_bit_if, bit_under, emit-is-bit}
use Rattle.add_template.specs.Conditions.{CondIn, columns_of}

module _ (row : List ℕ) where
  pub cond-in : {d : Cond} {k : ℕ} → d ≡ When k → CondIn row d → (k < length row) × (word row k < p)
  unfolding CondIn
  cond-in e h = subst (CondIn row) e h

  under_of : (x : ℕ) {c d : Cond} → c ≡ d → bit_under row (columns_of d) x ≡ bit_under row (columns_of c) x
  under_of x e = sym (ap (λ (c : Cond). bit_under row (columns_of c) x) e)

  pub under-always : (x : ℕ) {c : Cond} → c ≡ Always → is_bit x ≡ bit_under row (columns_of c) x
  under-always x e = under_of x e

  pub under-when : (x : ℕ) {c : Cond} {k : ℕ} → c ≡ When k → word row k < p → is_bit_if (word row k) x ≡ bit_under row (columns_of c) x
  under-when x {k = k} e h = ap (λ (m : ℕ). is_bit_if m x) (sym (ap (λ (n : ℕ). n % p) (zero-add (word row k)) ∙ mod-eq_of_lt h)) ∙ under_of x e

  -- the template on a column is the one on its word
  pub under-is : (k : ℕ) (c : Cond) → CondIn row c → bit_under row (columns_of c) (word row k) ≡ emit-is-bit row k c
  unfolding CondIn
  under-is k Always h = refl
  under-is k (When c) h = sym (under-when (word row k) {c = When c} refl h.1)
