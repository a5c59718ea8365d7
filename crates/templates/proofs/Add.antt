-- ADD means addition: where the words add up with carries, the two carries are those and both values are 0; and the other way round, for a sum of
-- low words of at most 2^32 + 192 and one of high words below that.
use mathlib.Core.Path.{◌≡◌, sym, ap, ap₂, ◌∙◌}
use mathlib.Core.List.{List, [], ◌∷◌}
use Prim.Native.Nat.{ℕ, zero, suc, ◌+◌, ◌*◌, ◌%◌, ◌≤◌, ◌<◌}
use native.Mathlib.Nat.{mod-eq_of_lt, mod-add-mod, zero-add}
use native.Mathlib.Omega.{arith}
use Rattle.lists.specs.Tab.{word}
use Rattle.field.specs.Field.{p, fadd}
use Rattle.templates.specs.declared.AddOperand.{AddOperand}
use Rattle.templates.specs.declared.Cond.TheVariants.{Always, When}
use Rattle.templates.specs.Templates.{add-operand-lo, add-operand-hi, is_bit, emit-is-bit, bit_under, carry0, add-pair-carry-hi, emit-add-pair}
use Rattle.templates.proofs.Carry.{Carried, carried, carry-of, carry_of, bit-value, bit-if-one, bit-if-zero}

-- IS_BIT of a bit is 0, under any columns
under-bit : (row cs : List ℕ) (x b : ℕ) → x ≡ b → b < 2 → bit_under row cs x ≡ 0
under-bit row [] x zero e h = ap is_bit e
under-bit row [] x (suc zero) e h = ap is_bit e
under-bit row [] x (suc (suc b)) e h = absurd (omega arith)
under-bit row (c ∷ cs) x b e h = bit-value _ x b e h

-- under one column: the same value where it is 1, and 0 where it is 0
pub under_one : (row : List ℕ) (c x : ℕ) → word row c ≡ 1 → x < p → bit_under row (c ∷ []) x ≡ is_bit x
under_one row c x e h = bit-if-one _ x (ap (fadd 0) e) h

pub under-zero : (row : List ℕ) (c x : ℕ) → word row c ≡ 0 → bit_under row (c ∷ []) x ≡ 0
under-zero row c x e = bit-if-zero _ x (ap (fadd 0) e)

-- under two columns, one of which is 1 and the other 0: the condition is their sum
pub under-two : (row : List ℕ) (c d x : ℕ) → word row c + word row d ≡ 1 → x < p → bit_under row (c ∷ d ∷ []) x ≡ is_bit x
under-two row c d x e h = bit-if-one _ x (mod-add-mod (0 + word row c) p (word row d) ∙ ap (λ (n : ℕ). n % p) (ap (λ (n : ℕ). n + word row d) (zero-add (word row c)) ∙ e)) h

pub is-bit-when : (row : List ℕ) (k c : ℕ) → word row c ≡ 1 → word row k < p → emit-is-bit row k (When c) ≡ emit-is-bit row k Always
is-bit-when row k c e h = bit-if-one _ (word row k) e h

module _ (row : List ℕ) (lhs rhs sum : AddOperand) where
  abbrev low : ℕ
  low = add-operand-lo row lhs + add-operand-lo row rhs

  abbrev high : ℕ
  high = add-operand-hi row lhs + add-operand-hi row rhs

  -- where the sums stay below p, the carries are those of the whole numbers
  low-is : low < p → carry0 row lhs rhs sum ≡ carry_of low (add-operand-lo row sum)
  unfolding carry0
  low-is h = ap (λ (x : ℕ). carry_of x (add-operand-lo row sum)) (mod-eq_of_lt h)

  high_is : (c : ℕ) → high + c < p → carry0 row lhs rhs sum ≡ c → add-pair-carry-hi row lhs rhs sum ≡ carry_of (high + c) (add-operand-hi row sum)
  unfolding add-pair-carry-hi
  high_is c h e = ap (λ (x : ℕ). carry_of x (add-operand-hi row sum)) (ap₂ fadd (mod-eq_of_lt (omega arith)) e ∙ mod-eq_of_lt h)

  module _ (lt : add-operand-lo row sum < 4294967296) (ht : add-operand-hi row sum < 4294967296) where
    pub add-carries : (c d : ℕ) → c < 2 → d < 2 → low ≡ add-operand-lo row sum + c * 4294967296 → high + c ≡ add-operand-hi row sum + d * 4294967296
        → (carry0 row lhs rhs sum ≡ c) × (add-pair-carry-hi row lhs rhs sum ≡ d)
    add-carries c d hc hd e f =
        let l : carry0 row lhs rhs sum ≡ c = low-is (omega arith) ∙ carry-of low (add-operand-lo row sum) c hc lt e in
        (l, high_is c (omega arith) l ∙ carry-of (high + c) (add-operand-hi row sum) d hd ht f)

    pub add-passes : (cs : List ℕ) (c d : ℕ) → c < 2 → d < 2 → low ≡ add-operand-lo row sum + c * 4294967296 → high + c ≡ add-operand-hi row sum + d * 4294967296
        → (i : ℕ) → emit-add-pair row cs lhs rhs sum i ≡ 0
    unfolding emit-add-pair
    add-passes cs c d hc hd e f zero = under-bit row cs _ c (add-carries c d hc hd e f).0 hc
    add-passes cs c d hc hd e f (suc i) = under-bit row cs _ d (add-carries c d hc hd e f).1 hd

    pub add-sound : low ≤ 4294967488 → high < 4294967488 → emit-add-pair row [] lhs rhs sum 0 ≡ 0 → emit-add-pair row [] lhs rhs sum 1 ≡ 0
        → (c : ℕ) × (d : ℕ) × (low ≡ add-operand-lo row sum + c * 4294967296) × (high + c ≡ add-operand-hi row sum + d * 4294967296) × (d ≡ add-pair-carry-hi row lhs rhs sum)
    unfolding emit-add-pair
    add-sound hl hh z₀ z₁ =
        let l : Carried low (add-operand-lo row sum) = carried low (add-operand-lo row sum) hl lt (ap is_bit (sym (low-is (omega arith))) ∙ z₀) in
        let e : add-pair-carry-hi row lhs rhs sum ≡ carry_of (high + l.bit) (add-operand-hi row sum) = high_is l.bit (omega (arith, l.bit-lt)) (low-is (omega arith) ∙ l.carry-is) in
        let h : Carried (high + l.bit) (add-operand-hi row sum) = carried (high + l.bit) (add-operand-hi row sum) (omega (arith, l.bit-lt)) ht (ap is_bit (sym e) ∙ z₁) in
        (l.bit, h.bit, l.sum_is, h.sum_is, sym (e ∙ h.carry-is))
