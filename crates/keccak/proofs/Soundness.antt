-- An active core row that passes, whoever filled it, has an address of 8 bytes that is a multiple of 8, and lane i at address
-- + 8i, below 2^64.
use mathlib.Core.Path.{◌≡◌, refl, sym, ap, ◌∙◌, subst}
use mathlib.Core.List.{List}
use Prim.Native.Nat.{ℕ, ◌+◌, ◌*◌, ◌%◌, ◌^◌, ◌<◌}
use native.Mathlib.Omega.{arith}
use lib.IntN.{pos}
use lib.Bits.{and_mask}
use Rattle.lists.specs.Tab.{word}
use Rattle.lists.proofs.Then.{then-lt, then-ge, at-two}
use Rattle.field.specs.Field.{p, fadd, fmul}
use Rattle.field.proofs.Field.{mod-p, fmul-one}
use Rattle.bits.proofs.Rotate.{by-parity}
use Rattle.templates.specs.Templates.{constant, from-dword-bl, from-dword-whh, carry0, add-pair-carry-hi, emit-add-pair, is_bit}
use Rattle.templates.proofs.Carry.{carry_of, Carried, carried, bit-if-one}
use Rattle.tuple.specs.Tuple.{Tuple}
use Rattle.bitwise.specs.Found.{alu_op}
use Rattle.matching.specs.Matching.{Found, Matched}
use Rattle.matching.proofs.Matching.{alu-of, bytes_of, half_of, is-wh-of}
use Rattle.keccak.specs.Columns.{ADDR, MU, addr, state-ptr}
use Rattle.keccak.specs.Row.{core_address, core_pointer}
use Rattle.keccak.specs.Values.{pointer_value, top_value, core_value}
use Rattle.keccak.specs.Tuples.{pointer_tuple, align_tuple, addr_bytes_tuple, core_tuple}
use Rattle.keccak.specs.Passes.{CorePasses, CoreCells}
use Rattle.keccak.proofs.Places.{tuple_at_lem}
use Rattle.keccak.proofs.Words.{Ranged, addr_lo, addr_hi, ptr_lo, ptr_hi, address-split, limb-next, pointer-split, lo-lt, hi-lt, ptr-lo-lt, carry0-is, carry1-is, top-is}

-- where the alignment lookup has a match, the lowest byte of the address is a multiple of 8
pub aligned-of : (row : List ℕ) → Found (align_tuple row) → word row (addr 0) % 8 ≡ 0
unfolding align_tuple alu_op
aligned-of row f = sym (and_mask (word row (addr 0)) 3) ∙ sym (alu-of _ _ _ _ f).2

module _ (nr syscall : ℕ) (row : List ℕ) (ok : CorePasses nr syscall row) (on : word row MU ≡ 1) where
  look : (i : ℕ) (t : Tuple) → i < 84 → core_tuple nr syscall row i ≡ t → (t.multiplicity ≡ word row MU) → Found t
  look i t h e m = subst Matched e (ok.lookups i h) (λ z. mu-due (sym m ∙ z))
    where
      mu-due : word row MU ≡ 0 → ⊥
      mu-due z = omega arith

  f-pointer : (i j : ℕ) → i < 25 → j < 2 → (pointer_tuple row i j).multiplicity ≡ word row MU → Found (pointer_tuple row i j)
  f-pointer i j hi hj m =
      look (4 + (i * 2 + j)) (pointer_tuple row i j) (omega arith) (tuple_at_lem nr syscall row 4 (i * 2 + j) (omega arith) ∙ at-two (pointer_tuple row) (omega arith) (omega arith)) m

  f-align : Found (align_tuple row)
  unfolding align_tuple
  f-align = look 54 (align_tuple row) (omega arith) (tuple_at_lem nr syscall row 5 0 (omega arith)) refl

  f-bytes : (i : ℕ) → i < 4 → Found (addr_bytes_tuple row i)
  unfolding addr_bytes_tuple
  f-bytes i hi = look (55 + i) (addr_bytes_tuple row i) (omega arith) (tuple_at_lem nr syscall row 6 i hi) refl

  is-wh : (i : ℕ) → i < 25 → (word row (state-ptr i 0 + 2) < 2 ^ 32) × (word row (state-ptr i 0 + 1) < 2 ^ 16)
  unfolding pointer_tuple
  is-wh i h = is-wh-of _ _ (f-pointer i 0 h (omega arith) refl)

  ranged : Ranged row
  unfolding pointer_tuple addr_bytes_tuple
  ranged =
      record {
        addr-bytes = by-parity (λ b. word row (addr b) < 256) (λ h l. (bytes_of _ _ (f-bytes h l)).0) (λ h l. (bytes_of _ _ (f-bytes h l)).1);
        limb-0 = λ i h. half_of _ (f-pointer i 1 h (omega arith) refl);
        limb-1 = λ i h. (is-wh i h).1;
        limb-2 = λ i h. (is-wh i h).0;
      }

  mu-one : fadd 0 (word row MU) ≡ 1
  mu-one = ap (fadd 0) on

  v-pointer : (i j : ℕ) → i < 25 → j < 2 → pointer_value row i j ≡ 0
  unfolding core_value
  v-pointer i j hi hj =
      sym (then-lt 50 (i * 2 + j) _ _ (omega arith) ∙ at-two (pointer_value row) (omega arith) (omega arith)) ∙ ok.values (i * 2 + j) (omega arith)

  v-top : top_value row ≡ 0
  unfolding core_value
  v-top = sym (then-ge 50 0 _ _ ∙ then-lt 1 0 _ _ (omega arith)) ∙ ok.values (50 + 0) (omega arith)

  carry0-lt : (i : ℕ) → carry0 row (from-dword-bl ADDR) (constant (pos (i * 8))) (from-dword-whh (state-ptr i 0)) < p
  unfolding carry0
  carry0-lt i = mod-p _

  carry1-lt : (i : ℕ) → add-pair-carry-hi row (from-dword-bl ADDR) (constant (pos (i * 8))) (from-dword-whh (state-ptr i 0)) < p
  unfolding add-pair-carry-hi
  carry1-lt i = mod-p _

  low : (i : ℕ) → i < 25 → Carried (addr_lo row + 8 * i) (ptr_lo row i)
  unfolding pointer_value emit-add-pair
  low i h =
      carried (addr_lo row + 8 * i) (ptr_lo row i) (omega (arith, lo-lt row ranged)) (ptr-lo-lt row ranged i h)
      (ap is_bit (sym (carry0-is row ranged i h)) ∙ sym (bit-if-one (fadd 0 (word row MU)) (carry0 row (from-dword-bl ADDR) (constant (pos (i * 8))) (from-dword-whh (state-ptr i 0))) mu-one (carry0-lt i)) ∙ v-pointer i 0 h (omega arith))

  high : (i : ℕ) (h : i < 25) → Carried (addr_hi row + (low i h).bit) (ptr_hi row i)
  unfolding pointer_value emit-add-pair
  high i h =
      carried (addr_hi row + (low i h).bit) (ptr_hi row i) (omega (arith, hi-lt row ranged, (low i h).bit-lt)) (ranged.limb-2 i h)
      (ap is_bit (sym (carry1-is row ranged i (low i h).bit h (low i h).bit-lt (carry0-is row ranged i h ∙ (low i h).carry-is)))
      ∙ sym (bit-if-one (fadd 0 (word row MU)) (add-pair-carry-hi row (from-dword-bl ADDR) (constant (pos (i * 8))) (from-dword-whh (state-ptr i 0))) mu-one (carry1-lt i)) ∙ v-pointer i 1 h (omega arith))

  -- the top lane has no high carry
  h24 : 24 < 25
  h24 = omega arith

  top-zero : (high 24 h24).bit ≡ 0
  top-zero =
      sym (high 24 h24).carry-is
      ∙ sym (fmul-one (carry_of (addr_hi row + (low 24 h24).bit) (ptr_hi row 24)) (mod-p _))
      ∙ ap (λ (m : ℕ). fmul m (carry_of (addr_hi row + (low 24 h24).bit) (ptr_hi row 24))) (sym on)
      ∙ sym (top-is row ranged (low 24 h24).bit (low 24 h24).bit-lt (low 24 h24).carry-is) ∙ v-top

  address-lt : core_address row + 192 < 2 ^ 64
  address-lt =
      let l = low 24 h24 in
      let g = high 24 h24 in
      let z = top-zero in
      omega (arith, address-split row, l.sum_is, g.sum_is, l.bit-lt, z, ptr-lo-lt row ranged 24 h24, ranged.limb-2 24 h24)

  high_zero : (i : ℕ) (h : i < 25) → (high i h).bit ≡ 0
  high_zero i h =
      let l = low i h in
      let g = high i h in
      omega (arith, address-split row, l.sum_is, g.sum_is, l.bit-lt, g.bit-lt, address-lt)

  pointer_is : (i : ℕ) → i < 25 → core_pointer row i ≡ core_address row + 8 * i
  pointer_is i h =
      let l = low i h in
      let g = high i h in
      omega (arith, address-split row, pointer-split row i, l.sum_is, g.sum_is, high_zero i h)

  address-aligned : core_address row % 8 ≡ 0
  address-aligned = omega (arith, address-split row, aligned-of row f-align)

  pub core-sound : CoreCells row
  core-sound =
      record {
        addr-bytes = ranged.addr-bytes;
        aligned = address-aligned;
        limb-0 = ranged.limb-0;
        limb-1 = λ i h. subst (λ (n : ℕ). n < 65536) (limb-next row i).0 (ranged.limb-1 i h);
        limb-2 = λ i h. subst (λ (n : ℕ). n < 4294967296) (limb-next row i).1 (ranged.limb-2 i h);
        pointers = pointer_is;
        below = address-lt;
      }
