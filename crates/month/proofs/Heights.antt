-- The rows of a file's round table: at most 2^31, and in all one of the 30 heights.
use mathlib.Core.Path.{◌≡◌, sym, ap, ap₂, ◌∙◌}
use Prim.Native.Nat.{ℕ, suc, ◌+◌, ◌-◌, ◌*◌, ◌^◌, ◌≤◌, ◌<◌}
use native.Mathlib.Omega.{arith}
use native.Mathlib.Nat.{mul-le-mul, pow-suc}
use lib.Pow.{pow_mono, pow-lt}
use Rattle.lists.proofs.Then.{by_le}
use Rattle.answer.specs.Limits.{MAX-OPS, MAX-ROUNDS}
use Rattle.answer.specs.Refusal.{PowerFloor}
use Rattle.answer.proofs.Refusals.{floor-least, floor-most}
use Rattle.keccak.proofs.Height.{height-least}
use Rattle.keccak_rnd.specs.Row.{round_height}
use Rattle.keccak_rnd.proofs.Rows.{few-rows}
use Rattle.month.specs.Month.{HEIGHTS, height_of}

-- exponents of powers in order
exponent-le : (a b : ℕ) → 2 ^ a ≤ 2 ^ b → a ≤ b
exponent-le a b h = by_le a b (λ l. l) (λ l. absurd (omega (arith, h, pow-lt {i = b} {j = a} l)))

pub height-one : (a b : ℕ) → height_of a ≡ height_of b → a ≡ b
height-one a b e =
    let l : 2 + a ≤ 2 + b = exponent-le (2 + a) (2 + b) (omega (arith, e)) in
    let k : 2 + b ≤ 2 + a = exponent-le (2 + b) (2 + a) (omega (arith, e)) in
    omega arith

-- ---- from one height to the next
pub height-twice : (e : ℕ) → height_of e * 2 ≡ height_of (e + 1)
height-twice e = let q : 2 + (e + 1) ≡ suc (2 + e) = omega arith in sym (ap (λ (k : ℕ). 2 ^ k) q ∙ pow-suc 2 (2 + e))

pub height-pos : (e : ℕ) → 4 ≤ height_of e
height-pos e = pow_mono {i = 2} {j = 2 + e} (omega arith)

-- below a height, the next is not above it
module _ (h p e : ℕ) (x : (k : ℕ) × (k < HEIGHTS) × (h ≡ height_of k)) (is : p ≡ height_of e) where
  exponent_lt : p < h → e < x.0
  exponent_lt l = by_le x.0 e (λ g. absurd (omega (arith, l, is, x.2, pow_mono {i = 2 + x.0} {j = 2 + e} (omega arith)))) (λ g. g)

  pub height-next : p < h → (e < HEIGHTS) × (p * 2 ≡ height_of (e + 1)) × (p * 2 ≤ h)
  height-next l =
      let g = exponent_lt l in
      let q : p * 2 ≡ height_of (e + 1) = ap (λ (w : ℕ). w * 2) is ∙ height-twice e in
      (omega (arith, g, x.1), q, omega (arith, q, x.2, pow_mono {i = 2 + (e + 1)} {j = 2 + x.0} (omega arith)))

-- the exponent of the greatest power that is not above a height
module _ (h e : ℕ) (x : (k : ℕ) × (k < HEIGHTS) × (h ≡ height_of k)) (low : 2 ^ e ≤ h) (high : h < 2 * 2 ^ e) where
  exponent-is : e ≡ 2 + x.0
  exponent-is =
      let a : e ≤ 2 + x.0 = exponent-le e (2 + x.0) (omega (arith, low, x.2)) in
      let b : 2 + x.0 ≤ e = by_le (2 + x.0) e (λ g. g) (λ g. absurd (omega (arith, high, x.2, pow-suc 2 e, pow_mono {i = suc e} {j = 2 + x.0} (omega (arith, g))))) in
      omega arith

  pub exponent-least : 2 ≤ e
  exponent-least = omega (arith, exponent-is)

  pub height-found : (e - 2 < HEIGHTS) × (h ≡ height_of (e - 2))
  height-found =
      let q : e - 2 ≡ x.0 = omega (arith, exponent-is) in
      (omega (arith, q, x.1), x.2 ∙ ap height_of (sym q))

-- ---- a file's rows
module _ (nr floor n : ℕ) (h : nr ≤ MAX-ROUNDS) (f : PowerFloor floor) (l : n ≤ MAX-OPS) where
  pub used-most : n * nr ≤ 2 ^ 31
  used-most = few-rows nr n h l

  pub total-most : round_height nr floor n ≤ 2 ^ 31
  total-most = (height-least floor (n * nr) f).least 31 (omega (arith, floor-most floor f)) used-most

  pub height-is : (e : ℕ) × (e < HEIGHTS) × (round_height nr floor n ≡ height_of e)
  height-is =
      let x = height-least floor (n * nr) f in
      let e = x.exponent in
      let low : 2 ≤ e = exponent-le 2 e (omega (arith, x.power, x.above_floor, floor-least floor f)) in
      let high : e ≤ 31 = exponent-le e 31 (omega (arith, x.power, total-most)) in
      let q : 2 + (e - 2) ≡ e = omega arith in
      (e - 2, omega arith, x.power ∙ ap (λ (k : ℕ). 2 ^ k) (sym q))

-- the products that fullness is compared by
module _ (nr floor n m : ℕ) (h : nr ≤ MAX-ROUNDS) (f : PowerFloor floor) (l : n ≤ MAX-OPS) (k : m ≤ MAX-OPS) where
  pub product-most : n * nr * round_height nr floor m ≤ 2 ^ 62
  product-most = mul-le-mul (used-most nr floor n h f l) (total-most nr floor m h f k)

  pub product-fits : {u t : ℕ} → u ≡ n * nr → t ≡ round_height nr floor m → u * t < 2 ^ 64
  product-fits {u} {t} p q = let e : u * t ≡ n * nr * round_height nr floor m = ap₂ ◌*◌ p q in omega (arith, e, product-most)
