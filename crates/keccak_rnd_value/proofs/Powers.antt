-- A number times a power of two up to 2^16, mod p, from its two words.
use mathlib.Core.Path.{◌≡◌, sym, ap, ◌∙◌}
use Prim.Native.Nat.{ℕ, ◌+◌, ◌-◌, ◌*◌, ◌/◌, ◌%◌, ◌^◌, ◌≤◌, ◌<◌}
use native.Mathlib.Nat.{add_comm, div-add-mod', div-le_self, mul-div-mul_right}
use native.Mathlib.Omega.{arith}
use lib.Pow.{pow_pos, pow-add, shr-shr}
use Rattle.field.specs.Field.{p, fadd, fmul}
use Rattle.field.proofs.Field.{add-c, two-64}

-- what passes 2^64, as the program computes it
abbrev pub passed : ℕ → ℕ → ℕ
passed v k = v / 2 ^ 48 / 2 ^ (16 - k)

passed_is : (v k : ℕ) → k ≤ 16 → passed v k ≡ v * 2 ^ k / 2 ^ 64
passed_is v k h =
    let e : 48 + (16 - k) + k ≡ 64 = omega arith in
    shr-shr v 48 (16 - k)
    ∙ sym (mul-div-mul_right v (2 ^ (48 + (16 - k))) (pow_pos k))
    ∙ ap (λ (m : ℕ). v * 2 ^ k / m) (sym (pow-add 2 (48 + (16 - k)) k) ∙ ap (λ (j : ℕ). 2 ^ j) e)

pub passed-lt : (v k : ℕ) → v < 2 ^ 64 → passed v k < 65536
passed-lt v k h = let q = div-le_self (v / 2 ^ 48) (2 ^ (16 - k)) in omega arith

-- low is the low word mod p
pub power-law : (v k low : ℕ) → k ≤ 16 → low % p ≡ v * 2 ^ k % 2 ^ 64 % p → fadd low (passed v k * 4294967295) ≡ fmul v (2 ^ k)
power-law v k low h e =
    add-c low (v * 2 ^ k % 2 ^ 64) (passed v k * 4294967295) e
    ∙ ap (λ (n : ℕ). n % p) (add_comm (v * 2 ^ k % 2 ^ 64) (passed v k * 4294967295))
    ∙ sym (two-64 (passed v k) (v * 2 ^ k % 2 ^ 64))
    ∙ ap (λ (n : ℕ). n % p) (ap (λ (q : ℕ). q * 2 ^ 64 + v * 2 ^ k % 2 ^ 64) (passed_is v k h) ∙ div-add-mod' (v * 2 ^ k) (2 ^ 64))
