-- The words of ADD's operands on a core row, where no column passes p: they are the sums that value 50 and the Memw tuples
-- write out, and the carry in value 50 is ADD's. Nothing is asked of the range of a byte or a limb.
use mathlib.Core.Path.{◌≡◌, ap, ap₂, ◌∙◌}
use mathlib.Core.List.{List}
use Prim.Native.Nat.{ℕ, ◌+◌, ◌%◌, ◌<◌}
use native.Mathlib.Nat.{mod-eq_of_lt, zero-add, add-zero, mul-one}
use native.Mathlib.Omega.{arith}
use lib.IntN.{pos}
use Rattle.lists.specs.Tab.{word}
use Rattle.field.specs.Field.{p, fadd, fsub, fmul, INV-SHIFT-32}
use Rattle.field.proofs.Field.{mod-p}
use Rattle.templates.specs.Templates.{constant, from-dword-bl, from-dword-whh, carry0, add-pair-carry-hi, add-terms-expr, add-operand-lo, add-operand-hi}
use Rattle.templates.proofs.Operand.{constant-lo, constant-hi, whh-hi}
use Rattle.keccak.specs.Columns.{ADDR, MU, addr, state-ptr}
use Rattle.keccak.specs.Values.{top_value, word_of_bytes, word_of_halves}

-- a first term whose coefficient is 1, and a term that is not used
from_zero : (w : ℕ) → w < p → fadd 0 w ≡ w
from_zero w h = ap (λ (x : ℕ). x % p) (zero-add w) ∙ mod-eq_of_lt h

first-term : (w : ℕ) → w < p → fadd 0 (fmul w 1) ≡ w
first-term w h = ap (λ (x : ℕ). fadd 0 (x % p)) (mul-one w) ∙ ap (fadd 0) (mod-eq_of_lt h) ∙ from_zero w h

no-term : (w : ℕ) → w < p → fadd w 0 ≡ w
no-term w h = ap (λ (x : ℕ). x % p) (add-zero w) ∙ mod-eq_of_lt h

module _ (row : List ℕ) where
  pub bytes-lo : word row 2 < p → add-operand-lo row (from-dword-bl ADDR) ≡ word_of_bytes row ADDR
  unfolding add-terms-expr
  bytes-lo h = ap (λ (x : ℕ). fadd (fadd (fadd x (fmul (word row 3) 256)) (fmul (word row 4) 65536)) (fmul (word row 5) 16777216)) (first-term (word row 2) h)

  pub bytes-hi : word row 6 < p → add-operand-hi row (from-dword-bl ADDR) ≡ word_of_bytes row (addr 4)
  unfolding add-terms-expr
  bytes-hi h = ap (λ (x : ℕ). fadd (fadd (fadd x (fmul (word row 7) 256)) (fmul (word row 8) 65536)) (fmul (word row 9) 16777216)) (first-term (word row 6) h)

  pub halves-lo : (k : ℕ) → word row k < p → add-operand-lo row (from-dword-whh k) ≡ word_of_halves row k
  unfolding add-terms-expr
  halves-lo k h =
      ap (λ (x : ℕ). fadd (fadd (fadd x (fmul (word row (k + 1)) 65536)) 0) 0) (first-term (word row k) h)
      ∙ ap (λ (x : ℕ). fadd x 0) (no-term (word_of_halves row k) (mod-p _))
      ∙ no-term (word_of_halves row k) (mod-p _)

  module _ (below : (k : ℕ) → k < 486 → word row k < p) where
    -- the carry of addr + 192 = state_ptr[24] out of the low words
    low-carry : carry0 row (from-dword-bl ADDR) (constant (pos 192)) (from-dword-whh (state-ptr 24 0))
        ≡ fmul (fsub (fadd (word_of_bytes row ADDR) 192) (word_of_halves row (state-ptr 24 0))) INV-SHIFT-32
    unfolding carry0
    low-carry =
        ap₂ (λ (a b : ℕ). fmul (fsub a b) INV-SHIFT-32)
        (ap₂ fadd (bytes-lo (below 2 (omega arith))) (constant-lo row 192 (omega arith)))
        (halves-lo (state-ptr 24 0) (below 482 (omega arith)))

    pub top-is : fmul (word row MU) (add-pair-carry-hi row (from-dword-bl ADDR) (constant (pos 192)) (from-dword-whh (state-ptr 24 0))) ≡ top_value row
    unfolding add-pair-carry-hi top_value
    top-is =
        ap₂ (λ (a b : ℕ). fmul (word row MU) (fmul (fsub a b) INV-SHIFT-32))
        (ap₂ fadd (ap₂ fadd (bytes-hi (below 6 (omega arith))) (constant-hi row (pos 192)) ∙ no-term (word_of_bytes row (addr 4)) (mod-p _)) low-carry)
        (whh-hi row (state-ptr 24 0) (below 484 (omega arith)))
