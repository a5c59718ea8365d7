-- An operand by its kind: where it may stand, a byte of it and its eight bytes.
use mathlib.Core.Path.{◌≡◌, sym, ap, subst, ◌∙◌}
use mathlib.Core.List.{List}
use Prim.Native.Nat.{ℕ, ◌+◌, ◌≤◌}
use native.Mathlib.Omega.{arith}
use Rattle.lists.specs.Tab.{tab, word}
use Rattle.lists.proofs.Laws.{tab-same}
use Rattle.keccak_rnd.specs.Columns.{NUM-COLUMNS}
use Rattle.keccak_rnd_terms.specs.Terms.{NUM-TERMS, TermsOf}
use Rattle.keccak_rnd_operands.specs.declared.Operand.{Operand}
use Rattle.keccak_rnd_operands.specs.declared.Operand.TheVariants.{Column, Term}
use Rattle.keccak_rnd_operands.specs.Lanes.{Within, operand_byte}

module _ {o : Operand} where
  pub column-within : {k : ℕ} → o ≡ Column k → Within o → k + 8 ≤ NUM-COLUMNS
  unfolding Within
  column-within e h = subst Within e h

  pub term-within : {k : ℕ} → o ≡ Term k → Within o → k + 8 ≤ NUM-TERMS
  unfolding Within
  term-within e h = subst Within e h

  module _ (row : List ℕ) where
    -- what was read of an operand of that kind is read of this one
    pub byte_of : {v : ℕ} (z : ℕ) {q : Operand} → o ≡ q → v ≡ operand_byte row q z → v ≡ operand_byte row o z
    byte_of z e h = h ∙ sym (ap (λ (t : Operand). operand_byte row t z) e)

    lane-of : {vs : List ℕ} {q : Operand} → o ≡ q → vs ≡ tab 8 (operand_byte row q) → vs ≡ tab 8 (operand_byte row o)
    lane-of e h = h ∙ sym (ap (λ (t : Operand). tab 8 (operand_byte row t)) e)

    pub column-lane : {k : ℕ} {vs : List ℕ} → o ≡ Column k → vs ≡ tab 8 (λ z. word row (k + z)) → vs ≡ tab 8 (operand_byte row o)
    unfolding operand_byte
    column-lane e h = lane-of e h

    pub term-lane : {k : ℕ} {vs : List ℕ} (terms : List ℕ) → TermsOf row terms → o ≡ Term k → k + 8 ≤ NUM-TERMS → vs ≡ tab 8 (λ z. word terms (k + z))
        → vs ≡ tab 8 (operand_byte row o)
    unfolding operand_byte
    term-lane {k} terms t e b h = lane-of e (h ∙ tab-same 8 (λ z. word terms (k + z)) (operand_byte row (Term k)) (λ z l. t.is (k + z) (omega arith)))
