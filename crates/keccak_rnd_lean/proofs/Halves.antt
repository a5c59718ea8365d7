-- A column of C, and a lane of ρ, of which only some words are known to be bytes: all of them are.
use mathlib.Core.Path.{◌≡◌, sym, ap, ap₂, ◌∙◌, subst}
use Prim.Native.Nat.{ℕ, zero, suc, ◌+◌, ◌-◌, ◌*◌, ◌/◌, ◌%◌, ◌^◌, ◌≤◌, ◌<◌}
use native.Mathlib.Nat.{add_comm}
use native.Mathlib.Omega.{arith}
use Rattle.field.specs.Field.{p, fadd, fmul}
use Rattle.bits.specs.Bits.{Bytes, halfword, left_byte, right_byte}
use Rattle.bits.proofs.Rotate.{half_lt, turned_lt, left-half, right-half, left-bytes, right-bytes}
use Rattle.keccak_rnd.specs.Values.{identity}
use Rattle.keccak_rnd_lean.proofs.Pairs.{digits, identity-mod, pairs-same}

-- ---- C shifted by one: L is CXZ_LEFT of a column, Q its carries, F its bytes of C
module _ (F L Q : ℕ → ℕ) (hF : Bytes F) (wl : (b : ℕ) → b < 8 → L b < p) (bits : (h : ℕ) → h < 4 → Q h < 2)
    (even : (h : ℕ) → h < 4 → fadd (L (2 * h)) (Q ((h + 3) % 4)) < 256) (odd : (h : ℕ) → h < 4 → L (2 * h + 1) < 256)
    (ident : (h : ℕ) → h < 4 → fmul 1 (identity (halfword F h) 2 (fadd (L (2 * h)) (fmul (L (2 * h + 1)) 256)) (Q h)) ≡ 0) where
  -- twice a number by its bytes; the lowest is even
  twice : (n : ℕ) → n < 65536 → n * 2 ≡ digits (n * 2 % 256) (n * 2 / 256 % 256) (n * 2 / 65536) 0
  twice n l = omega arith

  lowest : (n q : ℕ) → q < 2 → n * 2 % 256 + q < 256
  lowest n q l = omega arith

  carry-word : (q : ℕ) → q < 2 → q ≡ fadd q (fmul 0 256)
  carry-word q l = omega arith

  pub even_byte : (h : ℕ) → h < 4 → L (2 * h) < 256
  even_byte h l =
      let n : ℕ = halfword F h in
      let hn : n < 65536 = half_lt F hF h l in
      let r = pairs-same n 2 (L (2 * h)) (L (2 * h + 1)) (Q h) 0 (n * 2 % 256) (n * 2 / 256 % 256) (n * 2 / 65536) 0 (Q ((h + 3) % 4)) 0 0 0
      (wl (2 * h) (omega arith)) (wl (2 * h + 1) (omega arith)) (omega (arith, bits h l)) (omega arith)
      (even h l) (omega (arith, odd h l)) (omega (arith, bits h l)) (omega arith)
      (lowest n (Q ((h + 3) % 4)) (bits ((h + 3) % 4) (omega arith))) (omega arith) (omega arith) (omega arith)
      (identity-mod n 2 (L (2 * h)) (L (2 * h + 1)) (Q h) 0
      (sym (ap (λ (q : ℕ). fmul 1 (identity n 2 (fadd (L (2 * h)) (fmul (L (2 * h + 1)) 256)) q)) (carry-word (Q h) (bits h l))) ∙ ident h l))
      (twice n hn) in
      subst (λ (m : ℕ). m < 256) (sym r.0) (omega arith)

-- ---- ρ: L and R are ROT_LEFT and ROT_RIGHT of a lane, F its bytes after θ, r its offset mod 16
pub eight : (P : ℕ → Type 0) → P 0 → P 1 → P 2 → P 3 → P 4 → P 5 → P 6 → P 7 → (b : ℕ) → b < 8 → P b
eight P p₀ p₁ p₂ p₃ p₄ p₅ p₆ p₇ zero l = p₀
eight P p₀ p₁ p₂ p₃ p₄ p₅ p₆ p₇ (suc zero) l = p₁
eight P p₀ p₁ p₂ p₃ p₄ p₅ p₆ p₇ (suc (suc zero)) l = p₂
eight P p₀ p₁ p₂ p₃ p₄ p₅ p₆ p₇ (suc (suc (suc zero))) l = p₃
eight P p₀ p₁ p₂ p₃ p₄ p₅ p₆ p₇ (suc (suc (suc (suc zero)))) l = p₄
eight P p₀ p₁ p₂ p₃ p₄ p₅ p₆ p₇ (suc (suc (suc (suc (suc zero))))) l = p₅
eight P p₀ p₁ p₂ p₃ p₄ p₅ p₆ p₇ (suc (suc (suc (suc (suc (suc zero)))))) l = p₆
eight P p₀ p₁ p₂ p₃ p₄ p₅ p₆ p₇ (suc (suc (suc (suc (suc (suc (suc zero))))))) l = p₇
eight P p₀ p₁ p₂ p₃ p₄ p₅ p₆ p₇ (suc (suc (suc (suc (suc (suc (suc (suc b)))))))) l = absurd (none b l)
  where
    none : (b : ℕ) → suc (suc (suc (suc (suc (suc (suc (suc b))))))) < 8 → ⊥
    none b l = omega arith

-- the low parts and the carries of eight bytes F, each halfword times 2^r
module _ (F : ℕ → ℕ) (r : ℕ) (hr : r < 16) (hF : Bytes F) where
  pub product : (h : ℕ) → h < 4 → halfword F h * 2 ^ r ≡ digits (left_byte F r (2 * h)) (left_byte F r (2 * h + 1)) (right_byte F r (2 * h)) (right_byte F r (2 * h + 1))
  product h l =
      split (halfword F h * 2 ^ r) ∙ sym (ap₂ (λ (m n : ℕ). m + n * 65536) (left-half F r hF hr h l) (right-half F r hF hr h l))
    where
      split : (n : ℕ) → n ≡ n % 65536 + n / 65536 * 65536
      split n = omega arith

  -- the low part of a halfword and the carry of the one below it share no bit
  pub apart : (b : ℕ) → b < 8 → left_byte F r ((b + 8) % 8) + right_byte F r ((b + 14) % 8) < 256
  apart = turned_lt F (left_byte F r) (right_byte F r) r 0 hr (omega arith) hF (left-bytes F r) (right-bytes F r) (left-half F r hF hr) (right-half F r hF hr)

module _ (F L R : ℕ → ℕ) (r : ℕ) (hr : r < 16) (hF : Bytes F) (wl : (b : ℕ) → b < 8 → L b < p) (wr : (b : ℕ) → b < 8 → R b < p)
    (kept : (b : ℕ) → b < 8 → 2 ≤ b % 4 → (L b < 256) × (R b < 256)) (sum : (b : ℕ) → b < 8 → fadd (L b) (R ((b + 6) % 8)) < 256)
    (ident : (h : ℕ) → h < 4 → fmul 1 (identity (halfword F h) (2 ^ r) (fadd (L (2 * h)) (fmul (L (2 * h + 1)) 256)) (fadd (R (2 * h)) (fmul (R (2 * h + 1)) 256))) ≡ 0) where
  abbrev lt : ℕ → ℕ
  lt = left_byte F r

  abbrev rt : ℕ → ℕ
  rt = right_byte F r

  abbrev True : ℕ → Type 0
  True h = (L (2 * h) ≡ lt (2 * h)) × (L (2 * h + 1) ≡ lt (2 * h + 1)) × (R (2 * h) ≡ rt (2 * h)) × (R (2 * h + 1) ≡ rt (2 * h + 1))

  at : (h : ℕ) → h < 4 → (u v w x : ℕ)
      → fadd (L (2 * h)) u < 256 → fadd (L (2 * h + 1)) v < 256 → fadd (R (2 * h)) w < 256 → fadd (R (2 * h + 1)) x < 256
      → lt (2 * h) + u < 256 → lt (2 * h + 1) + v < 256 → rt (2 * h) + w < 256 → rt (2 * h + 1) + x < 256 → True h
  at h l u v w x s₀ s₁ s₂ s₃ f₀ f₁ f₂ f₃ =
      pairs-same (halfword F h) (2 ^ r) (L (2 * h)) (L (2 * h + 1)) (R (2 * h)) (R (2 * h + 1)) (lt (2 * h)) (lt (2 * h + 1)) (rt (2 * h)) (rt (2 * h + 1)) u v w x
      (wl (2 * h) (omega arith)) (wl (2 * h + 1) (omega arith)) (wr (2 * h) (omega arith)) (wr (2 * h + 1) (omega arith)) s₀ s₁ s₂ s₃ f₀ f₁ f₂ f₃
      (identity-mod (halfword F h) (2 ^ r) (L (2 * h)) (L (2 * h + 1)) (R (2 * h)) (R (2 * h + 1)) (ident h l)) (product F r hr hF h l)

  -- halfwords 1 and 3 are looked up
  plain : (n : ℕ) → n < 256 → fadd n 0 < 256
  plain n l = omega arith

  more : (n : ℕ) → n < 256 → n + 0 < 256
  more n l = omega arith

  looked : (h : ℕ) → h < 4 → h % 2 ≡ 1 → True h
  looked h l o =
      let k₀ = kept (2 * h) (omega arith) (omega arith) in
      let k₁ = kept (2 * h + 1) (omega arith) (omega arith) in
      at h l 0 0 0 0 (plain _ k₀.0) (plain _ k₁.0) (plain _ k₀.1) (plain _ k₁.1)
      (more _ (left-bytes F r (2 * h) (omega arith))) (more _ (left-bytes F r (2 * h + 1) (omega arith)))
      (more _ (right-bytes F r (2 * h) (omega arith))) (more _ (right-bytes F r (2 * h + 1) (omega arith)))

  -- and stand beside 0 and 2
  turn : (m n : ℕ) → fadd m n < 256 → fadd n m < 256
  turn m n l = subst (λ (k : ℕ). k % p < 256) (add_comm m n) l

  beside : (m n k : ℕ) → n ≡ k → m + k < 256 → m + n < 256
  beside m n k e l = omega arith

  beside' : (m n k : ℕ) → n ≡ k → k + m < 256 → m + n < 256
  beside' m n k e l = omega arith

  first : True 1
  first = looked 1 (omega arith) (omega arith)

  third : True 3
  third = looked 3 (omega arith) (omega arith)

  zeroth : True 0
  zeroth =
      at 0 (omega arith) (R 6) (R 7) (L 2) (L 3)
      (sum 0 (omega arith)) (sum 1 (omega arith)) (turn (L 2) (R 0) (sum 2 (omega arith))) (turn (L 3) (R 1) (sum 3 (omega arith)))
      (beside (lt 0) (R 6) (rt 6) third.2 (apart F r hr hF 0 (omega arith))) (beside (lt 1) (R 7) (rt 7) third.3 (apart F r hr hF 1 (omega arith)))
      (beside' (rt 0) (L 2) (lt 2) first.0 (apart F r hr hF 2 (omega arith))) (beside' (rt 1) (L 3) (lt 3) first.1 (apart F r hr hF 3 (omega arith)))

  second : True 2
  second =
      at 2 (omega arith) (R 2) (R 3) (L 6) (L 7)
      (sum 4 (omega arith)) (sum 5 (omega arith)) (turn (L 6) (R 4) (sum 6 (omega arith))) (turn (L 7) (R 5) (sum 7 (omega arith)))
      (beside (lt 4) (R 2) (rt 2) first.2 (apart F r hr hF 4 (omega arith))) (beside (lt 5) (R 3) (rt 3) first.3 (apart F r hr hF 5 (omega arith)))
      (beside' (rt 4) (L 6) (lt 6) third.0 (apart F r hr hF 6 (omega arith))) (beside' (rt 5) (L 7) (lt 7) third.1 (apart F r hr hF 7 (omega arith)))

  left-true : (b : ℕ) → b < 8 → L b ≡ lt b
  left-true = eight (λ b. L b ≡ lt b) zeroth.0 zeroth.1 first.0 first.1 second.0 second.1 third.0 third.1

  right-true : (b : ℕ) → b < 8 → R b ≡ rt b
  right-true = eight (λ b. R b ≡ rt b) zeroth.2 zeroth.3 first.2 first.3 second.2 second.3 third.2 third.3

  pub lane-bytes : (b : ℕ) → b < 8 → (L b < 256) × (R b < 256)
  lane-bytes b l = (
    subst (λ (n : ℕ). n < 256) (sym (left-true b l)) (left-bytes F r b l),
    subst (λ (n : ℕ). n < 256) (sym (right-true b l)) (right-bytes F r b l),
  )
