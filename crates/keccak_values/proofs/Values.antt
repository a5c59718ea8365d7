-- The values of a core row by the operands of ADD.
use mathlib.Core.Path.{◌≡◌, sym, ap, ap₂, ◌∙◌}
use mathlib.Core.List.{List, [], ◌∷◌}
use Prim.Native.Nat.{ℕ, ◌+◌, ◌*◌, ◌/◌, ◌%◌, ◌<◌}
use native.Mathlib.Nat.{add-zero}
use native.Mathlib.Omega.{arith}
use lib.IntN.{ℤ, pos}
use lib.ListN.{set}
use lib.Seq.{sets}
use mir.Syntax.{w64}
use mir.Val.{to_z}
use mir.ValLaws.{to_z_pos}
use Rattle.lists.specs.Tab.{word, tab}
use Rattle.lists.proofs.Laws.{sets_more}
use Rattle.lists.proofs.Then.{then-lt, then-past, at-two}
use Rattle.field.specs.Field.{p, fmul}
use Rattle.templates.specs.declared.AddOperand.{AddOperand}
use Rattle.templates.specs.Templates.{constant, from-dword-bl, from-dword-whh, bit_under, is_bit}
use Rattle.add_template.specs.declared.AddWords.{AddWords}
use Rattle.add_template.specs.Words.{words_on, low_carry, high_carry}
use Rattle.add_template.proofs.Values.{carry-hi-is, low-value-is, high-value-is}
use Rattle.keccak.specs.Columns.{ADDR, MU, state-ptr}
use Rattle.keccak.specs.Values.{pointer_value, top_value, core_value}
use Rattle.keccak.proofs.Operands.{top-is}

module _ (row : List ℕ) where
  -- words that were made of an operand
  pub words-made : {o made : AddOperand} {w : AddWords} → made ≡ o → w ≡ words_on row made → w ≡ words_on row o
  words-made e f = f ∙ ap (words_on row) e

  -- the two values of a lane, by the words of its operands; the offset was cast to a signed number
  module _ (i : ℕ) (h : i < 25) {addr offset pointer : AddWords} (a : addr ≡ words_on row (from-dword-bl ADDR)) (o : offset ≡ words_on row (constant (to_z w64 (i * 8))))
      (s : pointer ≡ words_on row (from-dword-whh (410 + i * 3))) where
    offset-is : offset ≡ words_on row (constant (pos (i * 8)))
    offset-is = o ∙ ap (λ (z : ℤ). words_on row (constant z)) (to_z_pos w64 (i * 8) (omega arith))

    pointer_is : pointer ≡ words_on row (from-dword-whh (state-ptr i 0))
    pointer_is = let k : 410 + i * 3 ≡ state-ptr i 0 = omega arith in s ∙ ap (λ (k : ℕ). words_on row (from-dword-whh k)) k

    at-lane : (j : ℕ) → j < 2 → pointer_value row i j ≡ core_value row (2 * i + j)
    unfolding core_value
    at-lane j g =
        let q : (2 * i + j) / 2 ≡ i = omega arith in
        let r : (2 * i + j) % 2 ≡ j = omega arith in
        sym (at-two (pointer_value row) q r) ∙ sym (then-lt 50 (2 * i + j) _ _ (omega arith))

    pub low_value : bit_under row (MU ∷ []) (low_carry addr offset pointer) ≡ core_value row (2 * i)
    unfolding pointer_value
    low_value = low-value-is row _ _ _ a offset-is pointer_is (MU ∷ []) ∙ at-lane 0 (omega arith) ∙ ap (core_value row) (add-zero (2 * i))

    pub high_value : bit_under row (MU ∷ []) (high_carry addr offset pointer) ≡ core_value row (2 * i + 1)
    unfolding pointer_value
    high_value = high-value-is row _ _ _ a offset-is pointer_is (MU ∷ []) ∙ at-lane 1 (omega arith)

  -- value 50, by those of the last lane
  pub top-value : ((k : ℕ) → k < 486 → word row k < p) → {addr offset pointer : AddWords} → addr ≡ words_on row (from-dword-bl ADDR) → offset ≡ words_on row (constant (pos 192))
      → pointer ≡ words_on row (from-dword-whh (state-ptr 24 0)) → fmul (word row MU) (high_carry addr offset pointer) ≡ top_value row
  top-value below a o s = ap (fmul (word row MU)) (carry-hi-is row _ _ _ a o s) ∙ top-is row below

  pub value-50 : top_value row ≡ core_value row 50
  unfolding core_value
  value-50 = sym (then-past 50 50 _ _ (omega arith) ∙ then-lt 1 0 _ _ (omega arith))

  pub value-51 : is_bit (word row MU) ≡ core_value row 51
  unfolding core_value
  value-51 = sym (then-past 50 51 _ _ (omega arith) ∙ then-past 1 1 _ _ (omega arith))

-- two stores more, and the row's values are whole
pub last-two : (l out : List ℕ) (f : ℕ → ℕ) {a b : ℕ} → out ≡ sets l 0 (tab 50 f) → a ≡ f 50 → b ≡ f 51 → set (set out 50 a) 51 b ≡ sets l 0 (tab 52 f)
last-two l out f {a} {b} e p q =
    ap (λ (o : List ℕ). set (set o 50 a) 51 b) e
    ∙ ap₂ (λ (x y : ℕ). set (set (sets l 0 (tab 50 f)) 50 x) 51 y) p q
    ∙ ap (λ (o : List ℕ). set o 51 (f 51)) (sets_more l 0 50 f)
    ∙ sets_more l 0 51 f
