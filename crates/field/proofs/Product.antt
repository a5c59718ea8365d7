-- What multiplication by halves of 32 bits comes to: the columns with their carries and bounds, and two words mod p.
use mathlib.Core.Path.{◌≡◌, refl, sym, ap, ap₂, ◌∙◌}
use Prim.Native.Nat.{ℕ, ◌+◌, ◌-◌, ◌*◌, ◌/◌, ◌%◌, ◌^◌, ◌<◌, ◌≤◌}
use native.Mathlib.Nat.{add_assoc, add_comm, add_left_comm, mul_assoc, mul_comm, mul_left_comm, mul-add, add-mul, div-add-mod', le_trans, mul-le-mul_left, mul-le-mul_right, mod-add-mod, add-mod_right}
use native.Mathlib.Omega.{arith}
use Rattle.field.specs.Field.{p, fadd, fsub}
use Rattle.field.proofs.Field.{add-c, two-64, two-96}

step₁ : (P a₀ a₁ b₀ b₁ : ℕ) → (a₁ * P + a₀) * (b₁ * P + b₀) ≡ a₁ * b₁ * (P * P) + a₁ * b₀ * P + a₀ * b₁ * P + a₀ * b₀
step₁ P a₀ a₁ b₀ b₁ = simp (mul-add, add-mul, mul_assoc, mul_comm, mul_left_comm, add_assoc, add_comm, add_left_comm) refl

-- the columns of a * b, as the program computes them
abbrev pub middle : ℕ → ℕ → ℕ
middle a b = a / 4294967296 * (b % 4294967296) + a % 4294967296 * (b % 4294967296) / 4294967296

abbrev pub next : ℕ → ℕ → ℕ
next a b = middle a b % 4294967296 + a % 4294967296 * (b / 4294967296)

abbrev pub upper : ℕ → ℕ → ℕ
upper a b = a / 4294967296 * (b / 4294967296) + middle a b / 4294967296 + next a b / 4294967296

abbrev pub lower : ℕ → ℕ → ℕ
lower a b = next a b % 4294967296 * 4294967296 + a % 4294967296 * (b % 4294967296) % 4294967296

pub whole : (a b : ℕ) → upper a b * 18446744073709551616 + lower a b ≡ a * b
whole a b =
    let e : (a / 4294967296 * 4294967296 + a % 4294967296) * (b / 4294967296 * 4294967296 + b % 4294967296) ≡ a * b = (λ i. div-add-mod' a 4294967296 i * div-add-mod' b 4294967296 i) in
    let s : (a / 4294967296 * 4294967296 + a % 4294967296) * (b / 4294967296 * 4294967296 + b % 4294967296) ≡ a / 4294967296 * (b / 4294967296) * 18446744073709551616 + a / 4294967296 * (b % 4294967296) * 4294967296 + a % 4294967296 * (b / 4294967296) * 4294967296 + a % 4294967296 * (b % 4294967296) = step₁ 4294967296 (a % 4294967296) (a / 4294967296) (b % 4294967296) (b / 4294967296) in
    omega arith

-- x and y below 2 ^ 32
pub times : {x y : ℕ} → x < 4294967296 → y < 4294967296 → x * y ≤ 18446744065119617025
times {x} {y} hx hy =
    let p : x ≤ 4294967295 = omega arith in
    let q : y ≤ 4294967295 = omega arith in
    le_trans (mul-le-mul_left x q) (mul-le-mul_right 4294967295 p)

pub low-lt : (a : ℕ) → a % 4294967296 < 4294967296
low-lt a = omega arith

pub high_lt : (a : ℕ) → a < 18446744073709551616 → a / 4294967296 < 4294967296
high_lt a h = omega arith

-- ---- a number of two words mod p
pub less-p : (a b : ℕ) → a + p ≡ b → a % p ≡ b % p
less-p a b e = sym (add-mod_right a p) ∙ ap (λ (x : ℕ). x % p) e

-- hi is top * 2^32 + h: the word lo less top, and h * (2^32 - 1) more
pub reduced-law : (hi lo low : ℕ) → hi < 2 ^ 64 → low % p ≡ lo % p → fadd (fsub low (hi / 2 ^ 32)) (hi % 2 ^ 32 * 4294967295) ≡ (hi * 2 ^ 64 + lo) % p
reduced-law hi lo low h e =
    let top : ℕ = hi / 2 ^ 32 in
    let mid : ℕ = hi % 2 ^ 32 * 4294967295 in
    mod-add-mod (low + (p - top)) p mid
    ∙ ap (λ (x : ℕ). x % p) (apart low (p - top) mid) ∙ add-c low lo (p - top + mid) e ∙ ap (λ (x : ℕ). x % p) (turn lo (p - top) mid)
    ∙ sym (add-c (hi % 2 ^ 32 * 2 ^ 64 + lo) (mid + lo) (p - top) (two-64 (hi % 2 ^ 32) lo))
    ∙ sym (add-c (top * 2 ^ 96 + (hi % 2 ^ 32 * 2 ^ 64 + lo) + top) (hi % 2 ^ 32 * 2 ^ 64 + lo) (p - top) (two-96 top (hi % 2 ^ 32 * 2 ^ 64 + lo)))
    ∙ ap (λ (x : ℕ). x % p) (put top (hi % 2 ^ 32) lo (p - top) ∙ ap₂ (λ (a b : ℕ). a * 2 ^ 64 + lo + b) (div-add-mod' hi (2 ^ 32)) (rest top (omega arith))) ∙ add-mod_right (hi * 2 ^ 64 + lo) p
  where
    apart : (a b c : ℕ) → a + b + c ≡ a + (b + c)
    apart a b c = omega arith

    turn : (a b c : ℕ) → a + (b + c) ≡ c + a + b
    turn a b c = omega arith

    put : (top h lo k : ℕ) → top * 2 ^ 96 + (h * 2 ^ 64 + lo) + top + k ≡ (top * 2 ^ 32 + h) * 2 ^ 64 + lo + (top + k)
    put top h lo k = omega arith

    rest : (t : ℕ) → t < 2 ^ 32 → t + (p - t) ≡ p
    rest t l = omega arith
