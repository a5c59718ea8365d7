-- A shift identity of which only sums are known to be bytes: each of its four words with a byte beside it. The identity then holds of whole numbers, and
-- the four words are the bytes of the product. p being prime is not used.
use mathlib.Core.Path.{◌≡◌, sym, ap, ap₂, ◌∙◌}
use Prim.Native.Nat.{ℕ, ◌+◌, ◌-◌, ◌*◌, ◌/◌, ◌%◌, ◌<◌}
use native.Mathlib.Nat.{mod-eq_of_lt, div-add-mod', mod-add-mod, mod-mod, one-mul, add-mul-mod_self_right, zero-add, add_comm}
use native.Mathlib.Omega.{arith}
use Rattle.field.specs.Field.{p, fadd, fmul}
use Rattle.field.proofs.Field.{add-c, mod-p}
use Rattle.keccak_rnd.specs.Values.{identity}

-- four bytes as a number
abbrev pub digits : ℕ → ℕ → ℕ → ℕ → ℕ
digits a b c d = a + b * 256 + (c + d * 256) * 65536

-- mod p each of them counts mod p
pub digits_mod : (a b c d : ℕ) → digits a b c d % p ≡ digits (a % p) (b % p) (c % p) (d % p) % p
digits_mod a b c d =
    ap (λ (n : ℕ). n % p) (omega (arith, div-add-mod' a p, div-add-mod' b p, div-add-mod' c p, div-add-mod' d p))
    ∙ add-mul-mod_self_right (digits (a % p) (b % p) (c % p) (d % p)) (digits (a / p) (b / p) (c / p) (d / p)) p

-- two words as a halfword, mod p
half-mod : (a b : ℕ) → a + b * 256 ≡ fadd a (fmul b 256) + ((a + b * 256 % p) / p + b * 256 / p) * p
half-mod a b = omega (arith, div-add-mod' (a + b * 256 % p) p, div-add-mod' (b * 256) p)

-- t - 2^16 right - left = 0 mod p
moved : (t left right : ℕ) → left < p → ((t % p + (p - right * 65536 % p)) % p + (p - left)) % p ≡ 0 → (left + right * 65536) % p ≡ t % p
moved t left right hl e =
    let u : ℕ = right * 65536 % p in
    let i : (t % p + (p - u) + (p - left)) % p ≡ 0 % p = sym (mod-add-mod (t % p + (p - u)) p (p - left)) ∙ e in
    ap (λ (n : ℕ). n % p) (add_comm left (right * 65536)) ∙ sym (mod-add-mod (right * 65536) p left)
    ∙ ap (λ (n : ℕ). n % p) (sym (zero-add (u + left))) ∙ sym (add-c (t % p + (p - u) + (p - left)) 0 (u + left) i)
    ∙ ap (λ (n : ℕ). n % p) (back (t % p) u left (mod-p (right * 65536)) hl) ∙ add-mul-mod_self_right (t % p) 2 p ∙ mod-mod t p
  where
    back : (t u left : ℕ) → u < p → left < p → t + (p - u) + (p - left) + (u + left) ≡ t + 2 * p
    back t u left hu hl = omega arith

-- the identity as a congruence of the four words
pub identity-mod : (inp pow a b c d : ℕ) → fmul 1 (identity inp pow (fadd a (fmul b 256)) (fadd c (fmul d 256))) ≡ 0 → digits a b c d % p ≡ inp * pow % p
identity-mod inp pow a b c d e =
    let left : ℕ = fadd a (fmul b 256) in
    let right : ℕ = fadd c (fmul d 256) in
    let j : ℕ = (a + b * 256 % p) / p + b * 256 / p in
    let k : ℕ = (c + d * 256 % p) / p + d * 256 / p in
    let whole : digits a b c d ≡ left + right * 65536 + (j + k * 65536) * p = ap₂ (λ (m n : ℕ). m + n * 65536) (half-mod a b) (half-mod c d) ∙ regroup left right j k in
    ap (λ (n : ℕ). n % p) whole ∙ add-mul-mod_self_right (left + right * 65536) (j + k * 65536) p
    ∙ moved (inp * pow) left right (mod-p (a + fmul b 256)) (sym (ap (λ (n : ℕ). n % p) (one-mul (identity inp pow left right)) ∙ mod-mod _ p) ∙ e)
  where
    regroup : (x y j k : ℕ) → x + j * p + (y + k * p) * 65536 ≡ x + y * 65536 + (j + k * 65536) * p
    regroup x y j k = omega arith

-- a word and a byte whose sum is a byte, and is that of another byte and it
pub same_byte : (w u t : ℕ) → w < p → u < 256 → t < 256 → fadd w u ≡ t + u → w ≡ t
same_byte w u t hw hu ht e = omega arith

-- digits of a sum
pub sum-digits : (a b c d u v w x : ℕ) → digits a b c d + digits u v w x ≡ digits (a + u) (b + v) (c + w) (d + x)
sum-digits a b c d u v w x = omega arith

pub digits_lt : (a b c d : ℕ) → a < 256 → b < 256 → c < 256 → d < 256 → digits a b c d < 0x100000000
digits_lt a b c d ha hb hc hd = omega arith

-- four bytes are known by their number
pub digits_same : (a b c d e f g h : ℕ) → a < 256 → b < 256 → c < 256 → d < 256 → e < 256 → f < 256 → g < 256 → h < 256
    → digits a b c d ≡ digits e f g h → (a ≡ e) × (b ≡ f) × (c ≡ g) × (d ≡ h)
digits_same a b c d e f g h ha hb hc hd he hf hg hh q = omega arith

-- ---- a, b, c, d are what is asked for; t, .., the bytes of the product; u, v, w, x the bytes beside them
module _ (inp pow a b c d t₀ t₁ t₂ t₃ u v w x : ℕ) (ha : a < p) (hb : b < p) (hc : c < p) (hd : d < p)
    (s₀ : fadd a u < 256) (s₁ : fadd b v < 256) (s₂ : fadd c w < 256) (s₃ : fadd d x < 256)
    (f₀ : t₀ + u < 256) (f₁ : t₁ + v < 256) (f₂ : t₂ + w < 256) (f₃ : t₃ + x < 256)
    (e : digits a b c d % p ≡ inp * pow % p) (q : inp * pow ≡ digits t₀ t₁ t₂ t₃) where
  sums_same : digits (fadd a u) (fadd b v) (fadd c w) (fadd d x) ≡ digits (t₀ + u) (t₁ + v) (t₂ + w) (t₃ + x)
  sums_same =
      sym (mod-eq_of_lt (omega (arith, digits_lt (fadd a u) (fadd b v) (fadd c w) (fadd d x) s₀ s₁ s₂ s₃)))
      ∙ sym (digits_mod (a + u) (b + v) (c + w) (d + x))
      ∙ ap (λ (n : ℕ). n % p) (sym (sum-digits a b c d u v w x))
      ∙ add-c (digits a b c d) (digits t₀ t₁ t₂ t₃) (digits u v w x) (e ∙ ap (λ (n : ℕ). n % p) q)
      ∙ ap (λ (n : ℕ). n % p) (sum-digits t₀ t₁ t₂ t₃ u v w x)
      ∙ mod-eq_of_lt (omega (arith, digits_lt (t₀ + u) (t₁ + v) (t₂ + w) (t₃ + x) f₀ f₁ f₂ f₃))

  pub pairs-same : (a ≡ t₀) × (b ≡ t₁) × (c ≡ t₂) × (d ≡ t₃)
  pairs-same =
      let r = digits_same _ _ _ _ _ _ _ _ s₀ s₁ s₂ s₃ f₀ f₁ f₂ f₃ sums_same in (
        same_byte a u t₀ ha (omega arith) (omega arith) r.0,
        same_byte b v t₁ hb (omega arith) (omega arith) r.1,
        same_byte c w t₂ hc (omega arith) (omega arith) r.2,
        same_byte d x t₃ hd (omega arith) (omega arith) r.3,
      )
