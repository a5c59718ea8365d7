-- The words that a core row's values are made of, where its bytes and limbs are in range: the address and the pointers as
-- two words each, and the carries of the sums of them.
use mathlib.Core.Path.{◌≡◌, ap, ap₂, ◌∙◌}
use mathlib.Core.List.{List}
use Prim.Native.Nat.{ℕ, ◌+◌, ◌*◌, ◌%◌, ◌<◌}
use native.Mathlib.Nat.{mod-eq_of_lt, add-zero}
use native.Mathlib.Omega.{arith}
use lib.IntN.{pos}
use Rattle.lists.specs.Tab.{word}
use Rattle.field.specs.Field.{p, fadd, fsub, fmul, INV-SHIFT-32}
use Rattle.bits.specs.Bits.{pack}
use Rattle.templates.specs.Templates.{constant, from-dword-bl, from-dword-whh, add-operand-lo, add-operand-hi, carry0, add-pair-carry-hi}
use Rattle.templates.proofs.Carry.{carry_of}
use Rattle.templates.proofs.Operand.{four_bytes, four-sum, two-sum, bl-lo, bl-hi, constant-lo, constant-hi, whh-lo, whh-hi}
use Rattle.keccak.specs.Columns.{ADDR, MU, addr, state-ptr}
use Rattle.keccak.specs.Row.{core_address, core_pointer}
use Rattle.keccak.specs.Values.{word_of_bytes, top_value}

pub record Ranged (row : List ℕ) : Type 0 where
  pub addr-bytes : (b : ℕ) → b < 8 → word row (addr b) < 256
  pub limb-0 : (i : ℕ) → i < 25 → word row (state-ptr i 0) < 65536
  pub limb-1 : (i : ℕ) → i < 25 → word row (state-ptr i 0 + 1) < 65536
  pub limb-2 : (i : ℕ) → i < 25 → word row (state-ptr i 0 + 2) < 4294967296

module _ (row : List ℕ) where
  -- the address's low and high word, and a pointer's
  abbrev pub addr_lo : ℕ
  addr_lo = four_bytes row ADDR

  abbrev pub addr_hi : ℕ
  addr_hi = four_bytes row (addr 4)

  abbrev pub ptr_lo : ℕ → ℕ
  ptr_lo i = word row (state-ptr i 0) + word row (state-ptr i 0 + 1) * 65536

  abbrev pub ptr_hi : ℕ → ℕ
  ptr_hi i = word row (state-ptr i 0 + 2)

  pub address-split : core_address row ≡ addr_lo + 4294967296 * addr_hi
  unfolding pack
  address-split = omega arith

  pub limb-next : (i : ℕ) → (word row (state-ptr i 0 + 1) ≡ word row (state-ptr i 1)) × (word row (state-ptr i 0 + 2) ≡ word row (state-ptr i 2))
  limb-next i = (ap (word row) (e₁ i), ap (word row) (e₂ i))
    where
      e₁ : (i : ℕ) → state-ptr i 0 + 1 ≡ state-ptr i 1
      e₁ i = omega arith

      e₂ : (i : ℕ) → state-ptr i 0 + 2 ≡ state-ptr i 2
      e₂ i = omega arith

  pub pointer-split : (i : ℕ) → core_pointer row i ≡ ptr_lo i + 4294967296 * ptr_hi i
  pointer-split i = let e = limb-next i in omega (arith, e.0, e.1)

  module _ (r : Ranged row) where
    pub lo-is : add-operand-lo row (from-dword-bl ADDR) ≡ addr_lo
    lo-is = bl-lo row ADDR (r.addr-bytes 0 (omega arith)) (r.addr-bytes 1 (omega arith)) (r.addr-bytes 2 (omega arith)) (r.addr-bytes 3 (omega arith))

    pub hi-is : add-operand-hi row (from-dword-bl ADDR) ≡ addr_hi
    hi-is = bl-hi row ADDR (r.addr-bytes 4 (omega arith)) (r.addr-bytes 5 (omega arith)) (r.addr-bytes 6 (omega arith)) (r.addr-bytes 7 (omega arith))

    pub lo-bytes : word_of_bytes row ADDR ≡ addr_lo
    lo-bytes = four-sum (word row 2) (word row 3) (word row 4) (word row 5) (r.addr-bytes 0 (omega arith)) (r.addr-bytes 1 (omega arith)) (r.addr-bytes 2 (omega arith)) (r.addr-bytes 3 (omega arith))

    pub hi-bytes : word_of_bytes row (addr 4) ≡ addr_hi
    hi-bytes = four-sum (word row 6) (word row 7) (word row 8) (word row 9) (r.addr-bytes 4 (omega arith)) (r.addr-bytes 5 (omega arith)) (r.addr-bytes 6 (omega arith)) (r.addr-bytes 7 (omega arith))

    pub lo-lt : addr_lo < 4294967296
    lo-lt = omega (arith, r.addr-bytes 0 (omega arith), r.addr-bytes 1 (omega arith), r.addr-bytes 2 (omega arith), r.addr-bytes 3 (omega arith))

    pub hi-lt : addr_hi < 4294967296
    hi-lt = omega (arith, r.addr-bytes 4 (omega arith), r.addr-bytes 5 (omega arith), r.addr-bytes 6 (omega arith), r.addr-bytes 7 (omega arith))

    pub ptr-lo-lt : (i : ℕ) → i < 25 → ptr_lo i < 4294967296
    ptr-lo-lt i h = omega (arith, r.limb-0 i h, r.limb-1 i h)

    -- the two carries of lane i
    pub carry0-is : (i : ℕ) → i < 25 → carry0 row (from-dword-bl ADDR) (constant (pos (i * 8))) (from-dword-whh (state-ptr i 0)) ≡ carry_of (addr_lo + 8 * i) (ptr_lo i)
    unfolding carry0
    carry0-is i h =
        ap₂ (λ (a b : ℕ). fmul (fsub a b) INV-SHIFT-32)
        (ap₂ fadd lo-is (constant-lo row (i * 8) (small i h) ∙ e i) ∙ mod-eq_of_lt (omega (arith, lo-lt)))
        (whh-lo row (state-ptr i 0) (r.limb-0 i h) (r.limb-1 i h))
      where
        small : (i : ℕ) → i < 25 → i * 8 < p
        small i h = omega arith

        e : (i : ℕ) → i * 8 ≡ 8 * i
        e i = omega arith

    pub carry1-is : (i c : ℕ) → i < 25 → c < 2 → carry0 row (from-dword-bl ADDR) (constant (pos (i * 8))) (from-dword-whh (state-ptr i 0)) ≡ c
        → add-pair-carry-hi row (from-dword-bl ADDR) (constant (pos (i * 8))) (from-dword-whh (state-ptr i 0)) ≡ carry_of (addr_hi + c) (ptr_hi i)
    unfolding add-pair-carry-hi
    carry1-is i c h l e =
        ap₂ (λ (a b : ℕ). fmul (fsub a b) INV-SHIFT-32)
        (ap₂ fadd (ap₂ fadd hi-is (constant-hi row (pos (i * 8))) ∙ ap (λ (x : ℕ). x % p) (add-zero addr_hi) ∙ mod-eq_of_lt (omega (arith, hi-lt))) e ∙ mod-eq_of_lt (omega (arith, hi-lt)))
        (whh-hi row (state-ptr i 0) (omega (arith, r.limb-2 i h)))

    pub top-is : (c : ℕ) → c < 2 → carry_of (addr_lo + 192) (ptr_lo 24) ≡ c → top_value row ≡ fmul (word row MU) (carry_of (addr_hi + c) (ptr_hi 24))
    unfolding top_value
    top-is c l e =
        ap (λ (x : ℕ). fmul (word row MU) (fmul (fsub x (word row (state-ptr 24 2))) INV-SHIFT-32))
        (ap₂ fadd hi-bytes
        (ap₂ (λ (a b : ℕ). fmul (fsub a b) INV-SHIFT-32) (ap (λ (x : ℕ). fadd x 192) lo-bytes ∙ mod-eq_of_lt (omega (arith, lo-lt))) (two-sum (word row (state-ptr 24 0)) (word row (state-ptr 24 1)) (r.limb-0 24 (omega arith)) (r.limb-1 24 (omega arith))) ∙ e)
        ∙ mod-eq_of_lt (omega (arith, hi-lt)))
