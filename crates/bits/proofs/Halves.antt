-- A lane by its halfwords, each shifted by the same power: their low parts and their carries as lanes.
use mathlib.Core.Path.{◌≡◌, ap, ◌∙◌}
use Prim.Native.Nat.{ℕ, ◌+◌, ◌*◌, ◌/◌, ◌%◌, ◌^◌, ◌≤◌, ◌<◌}
use native.Mathlib.Nat.{le_trans, le_of_suc-le-suc, mul-le-mul_left, mul-le-mul_right}
use native.Mathlib.Omega.{arith}
use lib.Pow.{pow_mono}
use Rattle.bits.specs.Bits.{byte_at, pack, lane_of, halfword, hwsl, hwsl_carry, left_byte, right_byte}
use Rattle.bits.proofs.Bytes.{byte-lt}
use Rattle.bits.proofs.Rotate.{half_lt}

-- the carry of a halfword is a halfword
pub carry-half : (n r : ℕ) → n < 65536 → r < 16 → n * 2 ^ r / 65536 < 65536
carry-half n r h l =
    let le : n * 2 ^ r ≤ 65535 * 32768 = le_trans (mul-le-mul_right (2 ^ r) (le_of_suc-le-suc h)) (mul-le-mul_left 65535 (pow_mono {i = r} {j = 15} (omega arith))) in
    omega arith

pub split-half : (n : ℕ) → n % 65536 + 65536 * (n / 65536) ≡ n
split-half n = omega arith

-- a lane by its halfwords
lane-pairs : (f : ℕ → ℕ) → f 0 + f 1 * 256 + (f 2 + f 3 * 256) * 65536 + (f 4 + f 5 * 256) * 4294967296 + (f 6 + f 7 * 256) * 281474976710656 ≡ lane_of f
unfolding pack
lane-pairs f = omega arith

two_bytes : (n : ℕ) → n < 65536 → n ≡ byte_at n 0 + byte_at n 1 * 256
two_bytes n h = omega arith

half-0 : (n : ℕ) → n % 65536 ≡ halfword (byte_at n) 0
half-0 n = omega arith

half-1 : (n : ℕ) → n / 2 ^ 16 % 65536 ≡ halfword (byte_at n) 1
half-1 n = omega arith

half-2 : (n : ℕ) → n / 2 ^ 32 % 65536 ≡ halfword (byte_at n) 2
half-2 n = omega arith

half-3 : (n : ℕ) → n / 2 ^ 48 % 65536 ≡ halfword (byte_at n) 3
half-3 n = omega arith

-- a function of the four halfwords of a lane, as a lane
module _ (g : ℕ → ℕ) (n : ℕ) (small : (h : ℕ) → h < 65536 → g h < 65536) where
  halves-lane : {a b c d : ℕ} → a ≡ g (n % 65536) → b ≡ g (n / 2 ^ 16 % 65536) → c ≡ g (n / 2 ^ 32 % 65536) → d ≡ g (n / 2 ^ 48 % 65536)
      → a + b * 65536 + c * 4294967296 + d * 281474976710656 ≡ lane_of (λ b. byte_at (g (halfword (byte_at n) (b / 2))) (b % 2))
  halves-lane {a} {b} {c} {d} p q r s =
      (λ t. (p ∙ ap g (half-0 n) ∙ at 0 (omega arith)) t + (q ∙ ap g (half-1 n) ∙ at 1 (omega arith)) t * 65536
      + (r ∙ ap g (half-2 n) ∙ at 2 (omega arith)) t * 4294967296 + (s ∙ ap g (half-3 n) ∙ at 3 (omega arith)) t * 281474976710656)
      ∙ lane-pairs (λ b. byte_at (g (halfword (byte_at n) (b / 2))) (b % 2))
    where
      at : (h : ℕ) → h < 4 → g (halfword (byte_at n) h) ≡ byte_at (g (halfword (byte_at n) h)) 0 + byte_at (g (halfword (byte_at n) h)) 1 * 256
      at h l = two_bytes (g (halfword (byte_at n) h)) (small (halfword (byte_at n) h) (half_lt (byte_at n) (λ b _. byte-lt n b) h l))

pub low-lane : (n r : ℕ) → {a b c d : ℕ} → a ≡ hwsl (n % 65536) r → b ≡ hwsl (n / 2 ^ 16 % 65536) r → c ≡ hwsl (n / 2 ^ 32 % 65536) r → d ≡ hwsl (n / 2 ^ 48 % 65536) r
    → a + b * 65536 + c * 4294967296 + d * 281474976710656 ≡ lane_of (left_byte (byte_at n) r)
unfolding left_byte
low-lane n r p q s u = halves-lane (λ h. hwsl h r) n (λ h l. omega arith) p q s u

pub carry-lane : (n r : ℕ) → r < 16 → {a b c d : ℕ} → a ≡ hwsl_carry (n % 65536) r → b ≡ hwsl_carry (n / 2 ^ 16 % 65536) r → c ≡ hwsl_carry (n / 2 ^ 32 % 65536) r → d ≡ hwsl_carry (n / 2 ^ 48 % 65536) r
    → a + b * 65536 + c * 4294967296 + d * 281474976710656 ≡ lane_of (right_byte (byte_at n) r)
unfolding right_byte
carry-lane n r l p q s u = halves-lane (λ h. hwsl_carry h r) n (λ h k. carry-half h r k l) p q s u
