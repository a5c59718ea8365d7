-- A core row with such cells passes, and so does every row with MU 0.
use mathlib.Core.Path.{◌≡◌, sym, ap, ◌∙◌, subst}
use mathlib.Core.List.{List}
use Prim.Native.Nat.{ℕ, zero, suc, ◌+◌, ◌-◌, ◌*◌, ◌/◌, ◌%◌, ◌^◌, ◌<◌}
use native.Mathlib.Nat.{add-zero, mul-zero}
use native.Mathlib.Omega.{arith}
use lib.IntN.{pos}
use lib.Bits.{and_mask}
use lib.Pow.{high as shr_high, low as mod_low}
use Rattle.lists.specs.Tab.{word}
use Rattle.lists.proofs.Then.{then-all, by_le}
use Rattle.field.specs.Field.{p, fadd, fmul}
use Rattle.field.proofs.Field.{fmul-zero}
use Rattle.bits.proofs.BitLaws.{by_bit}
use Rattle.templates.specs.Templates.{constant, from-dword-bl, from-dword-whh, carry0, add-pair-carry-hi, emit-add-pair, is_bit}
use Rattle.templates.proofs.Carry.{carry_of, carry-none, carry-of, bit-value, bit-if-zero}
use Rattle.bitwise.specs.Found.{alu_op}
use Rattle.matching.specs.Matching.{Found, Matched}
use Rattle.matching.proofs.Matching.{of-alu, of-bytes, of-half, of-is-wh, of-keccak, of-memw, of-ecall}
use Rattle.keccak.specs.Columns.{ADDR, MU, addr, state-ptr}
use Rattle.keccak.specs.Values.{pointer_value, top_value, core_value}
use Rattle.keccak.specs.Tuples.{ecall_tuple, addr_memw, lane_memw, pointer_tuple, align_tuple, addr_bytes_tuple, core_tuple}
use Rattle.keccak.specs.Passes.{CorePasses, CoreCells}
use Rattle.keccak.proofs.Words.{Ranged, addr_lo, addr_hi, ptr_lo, ptr_hi, address-split, limb-next, pointer-split, lo-lt, ptr-lo-lt, carry0-is, carry1-is, top-is}

-- two words make one number
two_digits : (a b c d : ℕ) → b < 2 ^ 32 → d < 2 ^ 32 → a * 2 ^ 32 + b ≡ c * 2 ^ 32 + d → (a ≡ c) × (b ≡ d)
two_digits a b c d hb hd e =
    (sym (shr_high a 32 hb) ∙ ap (λ (n : ℕ). n / 2 ^ 32) e ∙ shr_high c 32 hd, sym (mod_low a 32 hb) ∙ ap (λ (n : ℕ). n % 2 ^ 32) e ∙ mod_low c 32 hd)

-- ---- a row with such cells passes
module _ (nr syscall : ℕ) (row : List ℕ) (c : CoreCells row) (on : word row MU ≡ 1) where
  in-range : Ranged row
  in-range =
      record {
        addr-bytes = c.addr-bytes;
        limb-0 = c.limb-0;
        limb-1 = λ i h. subst (λ (n : ℕ). n < 65536) (sym (limb-next row i).0) (c.limb-1 i h);
        limb-2 = λ i h. subst (λ (n : ℕ). n < 4294967296) (sym (limb-next row i).1) (c.limb-2 i h);
      }

  -- the carry of the low words, and none of the high ones
  split : (i : ℕ) → i < 25 → (b : ℕ) × (b < 2) × (addr_lo row + 8 * i ≡ ptr_lo row i + b * 4294967296) × (addr_hi row + b ≡ ptr_hi row i)
  split i h =
      let e : ptr_hi row i * 2 ^ 32 + ptr_lo row i ≡ addr_hi row * 2 ^ 32 + (addr_lo row + 8 * i) = omega (arith, address-split row, pointer-split row i, c.pointers i h) in
      by_le 4294967296 (addr_lo row + 8 * i)
      (λ l.
      let d = two_digits (ptr_hi row i) (ptr_lo row i) (addr_hi row + 1) (addr_lo row + 8 * i - 4294967296) (ptr-lo-lt row in-range i h) (omega (arith, lo-lt row in-range)) (omega arith) in
      (1, omega arith, omega (arith, d.1), sym d.0))
      (λ l.
      let d = two_digits (ptr_hi row i) (ptr_lo row i) (addr_hi row) (addr_lo row + 8 * i) (ptr-lo-lt row in-range i h) l e in
      (0, omega arith, omega (arith, d.1), add-zero (addr_hi row) ∙ sym d.0))

  carry0-bit : (i : ℕ) (h : i < 25) → carry0 row (from-dword-bl ADDR) (constant (pos (i * 8))) (from-dword-whh (state-ptr i 0)) ≡ (split i h).0
  carry0-bit i h = let s = split i h in carry0-is row in-range i h ∙ carry-of (addr_lo row + 8 * i) (ptr_lo row i) s.0 s.1 (ptr-lo-lt row in-range i h) s.2

  carry1-bit : (i : ℕ) (h : i < 25) → add-pair-carry-hi row (from-dword-bl ADDR) (constant (pos (i * 8))) (from-dword-whh (state-ptr i 0)) ≡ 0
  carry1-bit i h =
      let s = split i h in
      carry1-is row in-range i s.0 h s.1 (carry0-bit i h) ∙ ap (λ (x : ℕ). carry_of x (ptr_hi row i)) s.3 ∙ carry-none (ptr_hi row i) (omega (arith, in-range.limb-2 i h))

  pointer-pass : (i : ℕ) → i < 25 → (j : ℕ) → j < 2 → pointer_value row i j ≡ 0
  unfolding pointer_value emit-add-pair
  pointer-pass i h =
      by_bit (λ j. pointer_value row i j ≡ 0) (bit-value (fadd 0 (word row MU)) _ (split i h).0 (carry0-bit i h) (split i h).1) (bit-value (fadd 0 (word row MU)) _ 0 (carry1-bit i h) (omega arith))

  top-pass : top_value row ≡ 0
  top-pass =
      let h : 24 < 25 = omega arith in
      let s = split 24 h in
      top-is row in-range s.0 s.1 (carry-of (addr_lo row + 192) (ptr_lo row 24) s.0 s.1 (ptr-lo-lt row in-range 24 h) s.2)
      ∙ ap (fmul (word row MU)) (ap (λ (x : ℕ). carry_of x (ptr_hi row 24)) s.3 ∙ carry-none (ptr_hi row 24) (omega (arith, in-range.limb-2 24 h)))
      ∙ ap (λ (x : ℕ). x % p) (mul-zero (word row MU))

  values-pass : (i : ℕ) → i < 52 → core_value row i ≡ 0
  unfolding core_value
  values-pass i l =
      then-all (λ n. n ≡ 0) 50 _ _ i (λ a. pointer-pass (i / 2) (omega arith) (i % 2) (omega arith))
      (λ i e₁. then-all (λ n. n ≡ 0) 1 _ _ i (λ a. top-pass)
      (λ i e₂. ap is_bit on))

  pointer-found : (i : ℕ) → i < 25 → (j : ℕ) → j < 2 → Found (pointer_tuple row i j)
  unfolding pointer_tuple
  pointer-found i h = by_bit (λ j. Found (pointer_tuple row i j)) (of-is-wh _ _ (in-range.limb-2 i h) (in-range.limb-1 i h)) (of-half _ (in-range.limb-0 i h))

  align-found : Found (align_tuple row)
  unfolding align_tuple alu_op
  align-found =
      of-alu 0 (word row (addr 0)) 7 0 (omega arith) (c.addr-bytes 0 (omega arith)) (omega arith)
      (sym (and_mask (word row (addr 0)) 3 ∙ omega (arith, address-split row, c.aligned)))

  bytes-found : (i : ℕ) → i < 4 → Found (addr_bytes_tuple row i)
  unfolding addr_bytes_tuple
  bytes-found i h = of-bytes _ _ (c.addr-bytes (2 * i) (omega arith)) (c.addr-bytes (2 * i + 1) (omega arith))

  lookups-pass : (i : ℕ) → i < 84 → Found (core_tuple nr syscall row i)
  unfolding core_tuple ecall_tuple addr_memw lane_memw
  lookups-pass i l =
      then-all Found 1 _ _ i (λ a. of-ecall _)
      (λ i e₁. then-all Found 1 _ _ i (λ a. of-memw _)
      (λ i e₂. then-all Found 1 _ _ i (λ a. of-keccak _)
      (λ i e₃. then-all Found 1 _ _ i (λ a. of-keccak _)
      (λ i e₄. then-all Found 50 _ _ i (λ a. pointer-found (i / 2) (omega arith) (i % 2) (omega arith))
      (λ i e₅. then-all Found 1 _ _ i (λ a. align-found)
      (λ i e₆. then-all Found 4 _ _ i (λ a. bytes-found i a)
      (λ i e₇. of-memw _)))))))

  pub core-cells-pass : CorePasses nr syscall row
  core-cells-pass = record { values = values-pass; lookups = λ i l _. lookups-pass i l }

-- ---- a row with MU 0 passes
module _ (nr syscall : ℕ) (row : List ℕ) (off : word row MU ≡ 0) where
  pointer-idle : (i j : ℕ) → pointer_value row i j ≡ 0
  unfolding pointer_value emit-add-pair
  pointer-idle i zero = bit-if-zero (fadd 0 (word row MU)) _ (ap (fadd 0) off)
  pointer-idle i (suc j) = bit-if-zero (fadd 0 (word row MU)) _ (ap (fadd 0) off)

  times_zero : (n : ℕ) → fmul (word row MU) n ≡ 0
  times_zero n = ap (λ (m : ℕ). fmul m n) off ∙ fmul-zero n

  top-idle : top_value row ≡ 0
  unfolding top_value
  top-idle = times_zero _

  values-idle : (i : ℕ) → i < 52 → core_value row i ≡ 0
  unfolding core_value
  values-idle i l =
      then-all (λ n. n ≡ 0) 50 _ _ i (λ a. pointer-idle (i / 2) (i % 2))
      (λ i e₁. then-all (λ n. n ≡ 0) 1 _ _ i (λ a. top-idle)
      (λ i e₂. ap is_bit off))

  idle : {A : Type 0} → (word row MU ≡ 0 → ⊥) → A
  idle n = absurd (n off)

  pointer-idle-tuple : (i j : ℕ) → Matched (pointer_tuple row i j)
  unfolding pointer_tuple
  pointer-idle-tuple i zero n = idle n
  pointer-idle-tuple i (suc j) n = idle n

  lookups-idle : (i : ℕ) → i < 84 → Matched (core_tuple nr syscall row i)
  unfolding core_tuple ecall_tuple addr_memw lane_memw align_tuple addr_bytes_tuple
  lookups-idle i l =
      then-all Matched 1 _ _ i (λ a n. idle n)
      (λ i e₁. then-all Matched 1 _ _ i (λ a n. idle n)
      (λ i e₂. then-all Matched 1 _ _ i (λ a n. idle n)
      (λ i e₃. then-all Matched 1 _ _ i (λ a n. idle n)
      (λ i e₄. then-all Matched 50 _ _ i (λ a. pointer-idle-tuple (i / 2) (i % 2))
      (λ i e₅. then-all Matched 1 _ _ i (λ a n. idle n)
      (λ i e₆. then-all Matched 4 _ _ i (λ a n. idle n)
      (λ i e₇ n. idle n)))))))

  pub core-inactive : CorePasses nr syscall row
  core-inactive = record { values = values-idle; lookups = lookups-idle }
