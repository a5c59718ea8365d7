-- The values of ADD by the words of its operands are those of the template.
use mathlib.Core.Path.{◌≡◌}
use mathlib.Core.List.{List}
use Rattle.templates.specs.declared.AddOperand.{AddOperand}
use Rattle.templates.specs.Templates.{carry0, add-pair-carry-hi, bit_under, emit-add-pair}
use Prim.Native.Nat.{ℕ}
use Rattle.add_template.specs.declared.AddWords.{AddWords}
use Rattle.add_template.specs.Words.{words_on, low_carry, high_carry}

module _ (row : List ℕ) (lhs rhs sum : AddOperand) {a b c : AddWords} (p : a ≡ words_on row lhs) (q : b ≡ words_on row rhs) (r : c ≡ words_on row sum) where
  pub carry-hi-is : high_carry a b c ≡ add-pair-carry-hi row lhs rhs sum
  unfolding add-pair-carry-hi carry0
  carry-hi-is = λ t. high_carry (p t) (q t) (r t)

  pub low-value-is : (cs : List ℕ) → bit_under row cs (low_carry a b c) ≡ emit-add-pair row cs lhs rhs sum 0
  unfolding emit-add-pair carry0
  low-value-is cs = λ t. bit_under row cs (low_carry (p t) (q t) (r t))

  pub high-value-is : (cs : List ℕ) → bit_under row cs (high_carry a b c) ≡ emit-add-pair row cs lhs rhs sum 1
  unfolding emit-add-pair add-pair-carry-hi carry0
  high-value-is cs = λ t. bit_under row cs (high_carry (p t) (q t) (r t))
