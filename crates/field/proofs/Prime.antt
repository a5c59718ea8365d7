-- p has no zero divisors. Were a·b = 0 mod p, neither of them 0, then p = m·t for some m and t with a·m = 0; and as the 2^32 numbers a·x,
-- x a power of the root, differ mod p, but not more than m numbers a·(x mod m), m is at least 2^32; t is too, for m·t = 0; and 2^64 is
-- larger than p.
--     annihilates    e·m = 0 mod p only for m of 2^32 or more, if e is not 0
--     divides        where a·m = 0 there is a divisor of p for which that is so
--     no-divisors    p has no zero divisors
use mathlib.Core.Logic.{◌⊎◌, inl, inr}
use mathlib.Core.Path.{◌≡◌, refl, sym, ap, ◌∙◌, subst}
use Prim.Native.Nat.{ℕ, zero, suc, ◌+◌, ◌-◌, ◌*◌, ◌/◌, ◌%◌, ◌^◌, ◌≤◌, ◌<◌}
use native.Mathlib.Nat.{mul_comm, mul_assoc, mul-add, mod-lt, mod-add-div, mul-le-mul, mul-mod_left, zero-lt-suc}
use native.Mathlib.Omega.{arith}
use Rattle.lists.proofs.Then.{by_le}
use Rattle.field.specs.Field.{p}
use Rattle.field.proofs.Field.{mul-c, add-c}
use Rattle.field.proofs.Powers.{Apart, pigeon, Same, same, power, ROOT, differ}

-- what m annihilates sees a number mod m only
reduced : (e m x : ℕ) → Same (e * m) 0 → Same (e * x) (e * (x % m))
reduced e m x h =
    same (ap (λ (y : ℕ). e * y) (sym (mod-add-div x m)) ∙ turn e m (x % m) (x / m))
    ∙ add-c (e * m * (x / m)) 0 (e * (x % m)) (mul-c (e * m) 0 (x / m) h ∙ same (none (x / m)))
    ∙ same (left (e * (x % m)))
  where
    turn : (e m r q : ℕ) → e * (r + m * q) ≡ e * m * q + e * r
    turn e m r q = omega arith

    none : (n : ℕ) → 0 * n ≡ 0
    none n = omega arith

    left : (n : ℕ) → 0 + n ≡ n
    left n = omega arith

pub annihilates : (e m : ℕ) → 0 < e → e < p → 0 < m → Same (e * m) 0 → 2 ^ 32 ≤ m
annihilates e m some small there h =
    by_le (2 ^ 32) m (λ l. l)
    (λ l. absurd (pigeon m (λ i. power ROOT i % m) (λ k g. mod-lt (power ROOT k) there)
    (λ i j g k s.
    differ e some small i j (λ q. omega arith) (omega arith) (omega arith)
    (reduced e m (power ROOT i) h ∙ same (ap (λ (y : ℕ). e * y) s) ∙ sym (reduced e m (power ROOT j) h)))))

-- a divisor of p
pub divides : (n a m : ℕ) → m ≤ n → 0 < m → m < p → Same (a * m) 0 → (d : ℕ) × (0 < d) × (d < p) × Same (a * d) 0 × (p % d ≡ 0)
divides zero a m l there small h = absurd (omega arith)
divides (suc n) a m l there small h =
    by_le (p % m) 0 (λ g. (m, there, small, h, omega arith))
    (λ g. divides n a (p % m) (omega (arith, mod-lt p there)) g (omega (arith, mod-lt p there))
    (sym (reduced a m p h) ∙ same (mul_comm a p) ∙ same (mul_comm p a) ∙ mul-mod_left a p))

pub no-divisors : (a b : ℕ) → a < p → b < p → a * b % p ≡ 0 → (a ≡ 0) ⊎ (b ≡ 0)
no-divisors a b ha hb h =
    by_le a 0 (λ l. inl (omega arith))
    (λ k. by_le b 0 (λ l. inr (omega arith))
    (λ l. absurd (go k (divides b a b (omega arith) l hb h))))
  where
    go : 0 < a → (d : ℕ) × (0 < d) × (d < p) × Same (a * d) 0 × (p % d ≡ 0) → ⊥
    go k (d, there, small, z, w) =
        let t : ℕ = p / d in
        let e : d * t ≡ p = sym (left (d * t)) ∙ ap (λ (r : ℕ). r + d * t) (sym w) ∙ mod-add-div p d in
        let some : 0 < t = by_le t 0 (λ l. absurd (never d t e l)) (λ l. l) in
        let m : 2 ^ 32 * 2 ^ 32 ≤ d * t = mul-le-mul (annihilates a d k ha there z) (annihilates d t there small some (same e)) in
        large (d * t) e m
      where
        left : (n : ℕ) → 0 + n ≡ n
        left n = omega arith

        never : (d t : ℕ) → d * t ≡ p → t ≤ 0 → ⊥
        never d zero e l = omega arith
        never d (suc t) e l = omega arith

        large : (n : ℕ) → n ≡ p → 2 ^ 32 * 2 ^ 32 ≤ n → ⊥
        large n e l = omega arith
