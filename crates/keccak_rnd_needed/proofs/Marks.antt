-- Laws of xor and of marks: a mark changes a number exactly where its rule is j.
use mathlib.Core.Path.{◌≡◌, sym, ap, ◌∙◌, subst}
use mathlib.Core.Bool.{Bool, true, false}
use Prim.Native.Nat.{ℕ, ◌+◌, ◌-◌, ◌*◌, ◌%◌, ◌^◌, ◌<◌}
use native.Mathlib.Nat.{zero-div}
use native.Mathlib.Omega.{arith}
use lib.Bits.{bit_xor, xor_zero_r, xor_comm}
use lib.Dec.{eqb, eqb→eq, eqb_refl}
use Rattle.lists.specs.Tab.{pick}
use Rattle.lists.proofs.Tests.{not-true, T_of}
use Rattle.lists.proofs.Then.{T_true}
use Rattle.bits.specs.Bits.{bit, byte_at, Bytes, rot}
use Rattle.bits.proofs.BitLaws.{bit-lt, bit-xor, bit-ext}
use Rattle.bits.proofs.Bytes.{byte-xor, lane-byte_at, lane-lt64, lane-of-bytes}
use Rattle.bits.proofs.Rotate.{bit-rot}
use Rattle.keccak_rnd_needed.specs.Bent.{mark}

-- ---- xor and rotation lose nothing
xor-bits : (a b c : ℕ) → a < 2 → b < 2 → c < 2 → (a + c) % 2 ≡ (b + c) % 2 → a ≡ b
xor-bits a b c ha hb hc e = omega arith

pub xor-cancel : (a b c : ℕ) → a < 2 ^ 64 → b < 2 ^ 64 → bit_xor a c ≡ bit_xor b c → a ≡ b
xor-cancel a b c ha hb e =
    bit-ext 64 a b ha hb
    (λ z l. xor-bits (bit a z) (bit b z) (bit c z) (bit-lt a z) (bit-lt b z) (bit-lt c z) (sym (bit-xor a c z) ∙ ap (λ (n : ℕ). bit n z) e ∙ bit-xor b c z))

pub xor-cancel-left : (a b c : ℕ) → a < 2 ^ 64 → b < 2 ^ 64 → bit_xor c a ≡ bit_xor c b → a ≡ b
xor-cancel-left a b c ha hb e = xor-cancel a b c ha hb (xor_comm a c ∙ e ∙ xor_comm c b)

-- where a mark changes nothing, it is 0
pub xor-none : (a m : ℕ) → m < 2 ^ 64 → bit_xor a m ≡ a → m ≡ 0
xor-none a m hm e = xor-cancel-left m 0 a hm (omega arith) (e ∙ sym (xor_zero_r a))

pub rot-cancel : (m n k : ℕ) → k < 64 → m < 2 ^ 64 → n < 2 ^ 64 → rot m k ≡ rot n k → m ≡ n
rot-cancel m n k hk hm hn e =
    bit-ext 64 m n hm hn
    (λ z l.
    ap (bit m) (back z l) ∙ sym (bit-rot m k ((z + k) % 64) hk (omega arith) hm) ∙ ap (λ (q : ℕ). bit q ((z + k) % 64)) e
    ∙ bit-rot n k ((z + k) % 64) hk (omega arith) hn ∙ sym (ap (bit n) (back z l)))
  where
    back : (z : ℕ) → z < 64 → z ≡ ((z + k) % 64 + (64 - k)) % 64
    back z l = omega arith

-- ---- marks
pub eqb-off : (m n : ℕ) → (m ≡ n → ⊥) → eqb m n ≡ false
eqb-off m n h = not-true (eqb m n) (λ e. h (eqb→eq m n (T_of (eqb m n) e)))

pub eqb-on : (m n : ℕ) → m ≡ n → eqb m n ≡ true
eqb-on m n e = subst (λ (k : ℕ). eqb m k ≡ true) e (T_true (eqb m m) (eqb_refl m))

pub pick-off : (m n : ℕ) → (m ≡ n → ⊥) → pick {A = ℕ} (eqb m n) 1 0 ≡ 0
pick-off m n h = ap (λ (t : Bool). pick {A = ℕ} t 1 0) (eqb-off m n h)

pub pick-on : (m n : ℕ) → m ≡ n → pick {A = ℕ} (eqb m n) 1 0 ≡ 1
pick-on m n h = ap (λ (t : Bool). pick {A = ℕ} t 1 0) (eqb-on m n h)

pick-lt : (t : Bool) → pick {A = ℕ} t 1 0 < 256
pick-lt true = omega arith
pick-lt false = omega arith

module _ (j n : ℕ) where
  marks : Bytes (λ b. pick (eqb (n + b) j) 1 0)
  marks b hb = pick-lt (eqb (n + b) j)

  pub mark-lt : mark j n < 2 ^ 64
  unfolding mark
  mark-lt = lane-lt64 (λ b. pick (eqb (n + b) j) 1 0) marks

  mark-byte : (b : ℕ) → b < 8 → byte_at (mark j n) b ≡ pick (eqb (n + b) j) 1 0
  unfolding mark
  mark-byte b hb = lane-byte_at (λ b. pick (eqb (n + b) j) 1 0) marks b hb

  pub mark-off : (b : ℕ) → b < 8 → (n + b ≡ j → ⊥) → byte_at (mark j n) b ≡ 0
  mark-off b hb h = mark-byte b hb ∙ pick-off (n + b) j h

  -- a byte of a number with the mark added
  pub marked-byte : (a b : ℕ) → b < 8 → (n + b ≡ j → ⊥) → byte_at (bit_xor a (mark j n)) b ≡ byte_at a b
  marked-byte a b hb h = byte-xor a (mark j n) b ∙ ap (bit_xor (byte_at a b)) (mark-off b hb h) ∙ xor_zero_r (byte_at a b)

  pub mark-none : ((b : ℕ) → b < 8 → n + b ≡ j → ⊥) → mark j n ≡ 0
  unfolding mark
  mark-none h = lane-of-bytes 0 (λ b. pick (eqb (n + b) j) 1 0) (omega arith) (λ b hb. pick-off (n + b) j (h b hb) ∙ sym (no_byte b))
    where
      no_byte : (b : ℕ) → byte_at 0 b ≡ 0
      no_byte b = ap (λ (q : ℕ). q % 256) (zero-div (2 ^ (8 * b)))

  pub mark-some : (b : ℕ) → b < 8 → n + b ≡ j → mark j n ≡ 0 → ⊥
  mark-some b hb e z =
      let q : ◌≡◌ {A = ℕ} 1 0 = sym (pick-on (n + b) j e) ∙ sym (mark-byte b hb) ∙ ap (λ (m : ℕ). byte_at m b) z ∙ ap (λ (q : ℕ). q % 256) (zero-div (2 ^ (8 * b))) in
      omega arith

  -- and what is not changed by it
  pub unmarked : (a : ℕ) → ((b : ℕ) → b < 8 → n + b ≡ j → ⊥) → bit_xor a (mark j n) ≡ a
  unmarked a h = ap (bit_xor a) (mark-none h) ∙ xor_zero_r a
