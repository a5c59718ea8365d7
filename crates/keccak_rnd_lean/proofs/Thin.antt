-- A remark on tuples of another shape. If AreBytes were asked of the two bytes of ROT_LEFT of halfwords 0 and 2 of a lane, two tuples to a lane, the bytes of π would be
-- right: `pi-right`. Words of ROT_LEFT and ROT_RIGHT are then not all forced (a halfword that no tuple bounds may be split into its two words in many ways), only their
-- sums. (By search, not proved here: no three words of a lane do; and of the tuples that are there, four to a lane are needed for either.)
use mathlib.Core.Path.{◌≡◌, sym, ap, ap₂, ◌∙◌}
use Prim.Native.Nat.{ℕ, ◌+◌, ◌-◌, ◌*◌, ◌/◌, ◌%◌, ◌^◌, ◌<◌}
use native.Mathlib.Nat.{mod-eq_of_lt, div-add-mod', add-mul-mod_self_right}
use native.Mathlib.Omega.{arith}
use Rattle.field.specs.Field.{p, fadd, fmul}
use Rattle.field.proofs.Field.{add-c, mul-c}
use Rattle.bits.specs.Bits.{Bytes, halfword, left_byte, right_byte}
use Rattle.bits.proofs.Rotate.{left-bytes, right-bytes}
use Rattle.keccak_rnd.specs.Values.{identity}
use Rattle.keccak_rnd_lean.proofs.Pairs.{digits, identity-mod}
use Rattle.keccak_rnd_lean.proofs.Halves.{product, apart, eight}

-- six bytes as a number
abbrev six : ℕ → ℕ → ℕ → ℕ → ℕ → ℕ → ℕ
six a b c d e f = digits a b c d + (e + f * 256) * 4294967296

six-mod : (a b c d e f : ℕ) → six a b c d e f % p ≡ six (a % p) (b % p) (c % p) (d % p) (e % p) (f % p) % p
six-mod a b c d e f =
    ap (λ (n : ℕ). n % p) (omega (arith, div-add-mod' a p, div-add-mod' b p, div-add-mod' c p, div-add-mod' d p, div-add-mod' e p, div-add-mod' f p))
    ∙ add-mul-mod_self_right (six (a % p) (b % p) (c % p) (d % p) (e % p) (f % p)) (six (a / p) (b / p) (c / p) (d / p) (e / p) (f / p)) p

six-lt : (a b c d e f : ℕ) → a < 256 → b < 256 → c < 256 → d < 256 → e < 512 → f < 512 → six a b c d e f < p
six-lt a b c d e f ha hb hc hd he hf = omega arith

-- two neighbours: (a b | c d) and (a' b' | c' d') with (v w) beside (c' d')
joined : (a b c d a' b' c' d' v w : ℕ) → digits a b c d + digits a' b' c' d' * 65536 + (v + w * 256) * 4294967296 ≡ six a b (a' + c) (b' + d) (v + c') (w + d')
joined a b c d a' b' c' d' v w = omega arith

two-sums : (x y m n : ℕ) → x % p ≡ m % p → y % p ≡ n % p → (x + y * 65536) % p ≡ (m + n * 65536) % p
two-sums x y m n e f =
    add-c x m (y * 65536) e ∙ ap (λ (k : ℕ). k % p) (turn m (y * 65536)) ∙ add-c (y * 65536) (n * 65536) m (mul-c y n 65536 f) ∙ ap (λ (k : ℕ). k % p) (turn (n * 65536) m)
  where
    turn : (a b : ℕ) → a + b ≡ b + a
    turn a b = omega arith

six-same : (a b c d e f g h i j k l : ℕ) → a < 256 → b < 256 → c < 256 → d < 256 → g < 256 → h < 256 → i < 256 → j < 256
    → six a b c d e f ≡ six g h i j k l → (a ≡ g) × (b ≡ h) × (c ≡ i) × (d ≡ j) × (e + f * 256 ≡ k + l * 256)
six-same a b c d e f g h i j k l ha hb hc hd hg hh hi hj q =
    let z : (a ≡ g) × (b ≡ h) × (digits c d e f ≡ digits i j k l) = omega arith in
    let y : (c ≡ i) × (d ≡ j) × (e + f * 256 ≡ k + l * 256) = omega (arith, z.2) in
    (z.0, z.1, y.0, y.1, y.2)

module _ (m₀ m₁ a b c d a' b' c' d' v w t₀ t₁ t₂ t₃ t₀' t₁' t₂' t₃' : ℕ) (ha : a < 256) (hb : b < 256) (hv : v < 256) (hw : w < 256)
    (s₀ : fadd a' c < 256) (s₁ : fadd b' d < 256) (s₂ : fadd v c' < 256) (s₃ : fadd w d' < 256)
    (f₀ : t₀ < 256) (f₁ : t₁ < 256) (f₂ : t₀' + t₂ < 256) (f₃ : t₁' + t₃ < 256) (f₄ : t₂' < 256) (f₅ : t₃' < 256)
    (e₀ : digits a b c d % p ≡ m₀ % p) (e₁ : digits a' b' c' d' % p ≡ m₁ % p) (q₀ : m₀ ≡ digits t₀ t₁ t₂ t₃) (q₁ : m₁ ≡ digits t₀' t₁' t₂' t₃') where
  whole : six a b (fadd a' c) (fadd b' d) (fadd v c') (fadd w d') ≡ six t₀ t₁ (t₀' + t₂) (t₁' + t₃) (v + t₂') (w + t₃')
  whole =
      let x : ℕ = (v + w * 256) * 4294967296 in
      sym (mod-eq_of_lt (six-lt a b (fadd a' c) (fadd b' d) (fadd v c') (fadd w d') ha hb s₀ s₁ (omega arith) (omega arith)))
      ∙ ap₂ (λ (m n : ℕ). six m n (fadd a' c) (fadd b' d) (fadd v c') (fadd w d') % p) (sym (mod-eq_of_lt {n = a} (omega arith))) (sym (mod-eq_of_lt {n = b} (omega arith)))
      ∙ sym (six-mod a b (a' + c) (b' + d) (v + c') (w + d'))
      ∙ ap (λ (n : ℕ). n % p) (sym (joined a b c d a' b' c' d' v w))
      ∙ add-c (digits a b c d + digits a' b' c' d' * 65536) (digits t₀ t₁ t₂ t₃ + digits t₀' t₁' t₂' t₃' * 65536) x
      (two-sums (digits a b c d) (digits a' b' c' d') (digits t₀ t₁ t₂ t₃) (digits t₀' t₁' t₂' t₃') (e₀ ∙ ap (λ (n : ℕ). n % p) q₀) (e₁ ∙ ap (λ (n : ℕ). n % p) q₁))
      ∙ ap (λ (n : ℕ). n % p) (joined t₀ t₁ t₂ t₃ t₀' t₁' t₂' t₃' v w)
      ∙ mod-eq_of_lt (six-lt t₀ t₁ (t₀' + t₂) (t₁' + t₃) (v + t₂') (w + t₃') f₀ f₁ f₂ f₃ (omega arith) (omega arith))

  pub couple : (a ≡ t₀) × (b ≡ t₁) × (fadd a' c ≡ t₀' + t₂) × (fadd b' d ≡ t₁' + t₃) × (fadd v c' + fadd w d' * 256 ≡ v + t₂' + (w + t₃') * 256)
  couple = six-same a b (fadd a' c) (fadd b' d) (fadd v c') (fadd w d') t₀ t₁ (t₀' + t₂) (t₁' + t₃) (v + t₂') (w + t₃') ha hb s₀ s₁ f₀ f₁ f₂ f₃ whole

-- ---- a lane: F its bytes after θ, L and R its ROT_LEFT and ROT_RIGHT, r its offset mod 16
module _ (F L R : ℕ → ℕ) (r : ℕ) (hr : r < 16) (hF : Bytes F) (l₀ : L 0 < 256) (l₁ : L 1 < 256) (l₄ : L 4 < 256) (l₅ : L 5 < 256)
    (sum : (b : ℕ) → b < 8 → fadd (L b) (R ((b + 6) % 8)) < 256)
    (ident : (h : ℕ) → h < 4 → fmul 1 (identity (halfword F h) (2 ^ r) (fadd (L (2 * h)) (fmul (L (2 * h + 1)) 256)) (fadd (R (2 * h)) (fmul (R (2 * h + 1)) 256))) ≡ 0) where
  abbrev lt : ℕ → ℕ
  lt = left_byte F r

  abbrev rt : ℕ → ℕ
  rt = right_byte F r

  half : (h : ℕ) → h < 4 → digits (L (2 * h)) (L (2 * h + 1)) (R (2 * h)) (R (2 * h + 1)) % p ≡ halfword F h * 2 ^ r % p
  half h l = identity-mod (halfword F h) (2 ^ r) (L (2 * h)) (L (2 * h + 1)) (R (2 * h)) (R (2 * h + 1)) (ident h l)

  ends : (m n t k u j : ℕ) → m < 256 → n < 256 → t + k < 256 → u + j < 256 → m + n * 256 ≡ t + k + (u + j) * 256 → (m ≡ t + k) × (n ≡ u + j)
  ends m n t k u j hm hn ht hu q = omega arith

  first : (L 0 ≡ lt 0) × (L 1 ≡ lt 1) × (fadd (L 2) (R 0) ≡ lt 2 + rt 0) × (fadd (L 3) (R 1) ≡ lt 3 + rt 1)
      × (fadd (L 4) (R 2) + fadd (L 5) (R 3) * 256 ≡ L 4 + rt 2 + (L 5 + rt 3) * 256)
  first =
      couple (halfword F 0 * 2 ^ r) (halfword F 1 * 2 ^ r) (L 0) (L 1) (R 0) (R 1) (L 2) (L 3) (R 2) (R 3) (L 4) (L 5)
      (lt 0) (lt 1) (rt 0) (rt 1) (lt 2) (lt 3) (rt 2) (rt 3) l₀ l₁ l₄ l₅ (sum 2 (omega arith)) (sum 3 (omega arith)) (sum 4 (omega arith)) (sum 5 (omega arith))
      (left-bytes F r 0 (omega arith)) (left-bytes F r 1 (omega arith)) (apart F r hr hF 2 (omega arith)) (apart F r hr hF 3 (omega arith)) (right-bytes F r 2 (omega arith)) (right-bytes F r 3 (omega arith))
      (half 0 (omega arith)) (half 1 (omega arith)) (product F r hr hF 0 (omega arith)) (product F r hr hF 1 (omega arith))

  second : (L 4 ≡ lt 4) × (L 5 ≡ lt 5) × (fadd (L 6) (R 4) ≡ lt 6 + rt 4) × (fadd (L 7) (R 5) ≡ lt 7 + rt 5)
      × (fadd (L 0) (R 6) + fadd (L 1) (R 7) * 256 ≡ L 0 + rt 6 + (L 1 + rt 7) * 256)
  second =
      couple (halfword F 2 * 2 ^ r) (halfword F 3 * 2 ^ r) (L 4) (L 5) (R 4) (R 5) (L 6) (L 7) (R 6) (R 7) (L 0) (L 1)
      (lt 4) (lt 5) (rt 4) (rt 5) (lt 6) (lt 7) (rt 6) (rt 7) l₄ l₅ l₀ l₁ (sum 6 (omega arith)) (sum 7 (omega arith)) (sum 0 (omega arith)) (sum 1 (omega arith))
      (left-bytes F r 4 (omega arith)) (left-bytes F r 5 (omega arith)) (apart F r hr hF 6 (omega arith)) (apart F r hr hF 7 (omega arith)) (right-bytes F r 6 (omega arith)) (right-bytes F r 7 (omega arith))
      (half 2 (omega arith)) (half 3 (omega arith)) (product F r hr hF 2 (omega arith)) (product F r hr hF 3 (omega arith))

  -- the two sums that a bounded word is in
  outer : (fadd (L 0) (R 6) ≡ lt 0 + rt 6) × (fadd (L 1) (R 7) ≡ lt 1 + rt 7)
  outer =
      ends (fadd (L 0) (R 6)) (fadd (L 1) (R 7)) (lt 0) (rt 6) (lt 1) (rt 7) (sum 0 (omega arith)) (sum 1 (omega arith)) (apart F r hr hF 0 (omega arith)) (apart F r hr hF 1 (omega arith))
      (second.4 ∙ ap₂ (λ (m n : ℕ). m + rt 6 + (n + rt 7) * 256) first.0 first.1)

  inner : (fadd (L 4) (R 2) ≡ lt 4 + rt 2) × (fadd (L 5) (R 3) ≡ lt 5 + rt 3)
  inner =
      ends (fadd (L 4) (R 2)) (fadd (L 5) (R 3)) (lt 4) (rt 2) (lt 5) (rt 3) (sum 4 (omega arith)) (sum 5 (omega arith)) (apart F r hr hF 4 (omega arith)) (apart F r hr hF 5 (omega arith))
      (first.4 ∙ ap₂ (λ (m n : ℕ). m + rt 2 + (n + rt 3) * 256) second.0 second.1)

  pub pi-right : (b : ℕ) → b < 8 → fadd (L b) (R ((b + 6) % 8)) ≡ left_byte F r b + right_byte F r ((b + 6) % 8)
  pi-right =
      eight (λ b. fadd (L b) (R ((b + 6) % 8)) ≡ lt b + rt ((b + 6) % 8)) outer.0 outer.1 first.2 first.3 inner.0 inner.1 second.2 second.3
