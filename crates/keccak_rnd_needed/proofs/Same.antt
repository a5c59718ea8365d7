-- The lanes of a bent row that are as the standard has them, given where rule j is not.
--     Off j lo hi    j is not from lo up to hi
use mathlib.Core.Path.{◌≡◌, refl, sym, ap, ap₂, ◌∙◌}
use mathlib.Core.List.{List}
use Prim.Native.Nat.{ℕ, zero, suc, ◌+◌, ◌-◌, ◌*◌, ◌%◌, ◌^◌, ◌≤◌, ◌<◌}
use native.Mathlib.Omega.{arith}
use lib.Bits.{bit_xor, bit_and, xor_lt, xor_zero_r}
use Rattle.lists.proofs.Then.{by_le}
use Rattle.bits.specs.Bits.{rot}
use Rattle.fips202.specs.Fips.{RHO}
use Rattle.fips202.specs.Lanes.{lane, Lanes, parity_l, theta_l, rho_pi_l}
use Rattle.fips202.proofs.Steps.{lane-lt, theta-lane, rho_pi-lane}
use Rattle.keccak_rnd_needed.specs.Bent.{sum_mark, sum_lanes, shift_mark, shift_lanes, d_lane, theta_bent, rho_bent, pi_bent, chi_bent}
use Rattle.keccak_rnd_needed.proofs.Marks.{xor-cancel, xor-cancel-left, mark-none, unmarked}
use Rattle.keccak_rnd_needed.proofs.Steps.{sum-lane, shift-lane, theta-bent, rho-bent, ands-bent, chi-bent}

-- ---- the sum of a column is known by its lanes, and one lane of it by the others and the sum
sums : (ℕ → ℕ) → ℕ → ℕ
sums f zero = f 0
sums f (suc n) = bit_xor (sums f n) (f (suc n))

Small : (ℕ → ℕ) → ℕ → Type 0
Small f n = (y : ℕ) → y ≤ n → f y < 2 ^ 64

sums_lt : (f : ℕ → ℕ) (n : ℕ) → Small f n → sums f n < 2 ^ 64
unfolding sums Small
sums_lt f zero h = h 0 (omega arith)
sums_lt f (suc n) h = xor_lt 64 (sums f n) (f (suc n)) (sums_lt f n (λ y l. h y (omega arith))) (h (suc n) (omega arith))

sums_same : (f g : ℕ → ℕ) (n : ℕ) → ((y : ℕ) → y ≤ n → f y ≡ g y) → sums f n ≡ sums g n
unfolding sums
sums_same f g zero h = h 0 (omega arith)
sums_same f g (suc n) h = ap₂ bit_xor (sums_same f g n (λ y l. h y (omega arith))) (h (suc n) (omega arith))

sums-one : (f g : ℕ → ℕ) (n : ℕ) → Small f n → Small g n → (z : ℕ) → z ≤ n → ((y : ℕ) → y ≤ n → (y ≡ z → ⊥) → f y ≡ g y) → sums f n ≡ sums g n → f z ≡ g z
unfolding sums Small
sums-one f g zero hf hg z l h e = let q : z ≡ 0 = omega arith in ap f q ∙ e ∙ sym (ap g q)
sums-one f g (suc n) hf hg z l h e =
    by_le z n
    (λ k. sums-one f g n (λ y l. hf y (omega arith)) (λ y l. hg y (omega arith)) z k (λ y l. h y (omega arith))
    (xor-cancel (sums f n) (sums g n) (g (suc n)) (sums_lt f n (λ y l. hf y (omega arith))) (sums_lt g n (λ y l. hg y (omega arith)))
    (sym (ap (bit_xor (sums f n)) (h (suc n) (omega arith) (λ q. omega arith))) ∙ e)))
    (λ k. let q : z ≡ suc n = omega arith in
    ap f q
    ∙ xor-cancel-left (f (suc n)) (g (suc n)) (sums g n) (hf (suc n) (omega arith)) (hg (suc n) (omega arith))
    (sym (ap (λ (m : ℕ). bit_xor m (f (suc n))) (sums_same f g n (λ y l. h y (omega arith) (λ c. omega arith)))) ∙ e)
    ∙ sym (ap g q))

parity-sums : (s : List ℕ) (x : ℕ) → parity_l s x ≡ sums (lane s x) 4
unfolding parity_l sums
parity-sums s x = refl

module _ (s t : List ℕ) (x : ℕ) where
  pub parity-same : ((y : ℕ) → y < 5 → lane s x y ≡ lane t x y) → parity_l s x ≡ parity_l t x
  parity-same h = parity-sums s x ∙ sums_same (lane s x) (lane t x) 4 (λ y l. h y (omega arith)) ∙ sym (parity-sums t x)

  pub parity-one : Lanes s → Lanes t → x < 5 → (z : ℕ) → z < 5 → ((y : ℕ) → y < 5 → (y ≡ z → ⊥) → lane s x y ≡ lane t x y) → parity_l s x ≡ parity_l t x → lane s x z ≡ lane t x z
  unfolding Small
  parity-one hs ht hx z hz h e =
      sums-one (lane s x) (lane t x) 4 (λ y l. lane-lt s hs x y hx (omega arith)) (λ y l. lane-lt t ht x y hx (omega arith)) z (omega arith) (λ y l. h y (omega arith))
      (sym (parity-sums s x) ∙ e ∙ parity-sums t x)

-- ---- lanes without a mark
abbrev pub Off : ℕ → ℕ → ℕ → Type 0
Off j lo hi = lo ≤ j → j < hi → ⊥

-- which rules a lane's eight marks stand for
sum-mark-none : (j x y : ℕ) → x < 5 → y < 5 → (y ≡ 1 → Off j (3 + 8 * x) (11 + 8 * x)) → ((k : ℕ) → y ≡ k + 2 → Off j (43 + 24 * x + 8 * k) (51 + 24 * x + 8 * k)) → sum_mark j x y ≡ 0
unfolding sum_mark
sum-mark-none j x zero hx hy h1 h2 = refl
sum-mark-none j x (suc zero) hx hy h1 h2 = mark-none j (3 + 8 * x) (λ b hb e. h1 refl (omega arith) (omega arith))
sum-mark-none j x (suc (suc k)) hx hy h1 h2 = mark-none j (43 + 24 * x + 8 * k) (λ b hb e. h2 k (omega arith) (omega arith) (omega arith))

shift-mark-none : (j x y : ℕ) → Off j (1051 + 4 * x) (1055 + 4 * x) → shift_mark j x y ≡ 0
unfolding shift_mark
shift-mark-none j x zero h = mark-none (2 * j) (2 * (1051 + 4 * x)) (λ b hb e. h (omega arith) (omega arith))
shift-mark-none j x (suc y) h = refl

module _ (j : ℕ) (s : List ℕ) where
  pub sum_same : (x y : ℕ) → x < 5 → y < 5 → (y ≡ 1 → Off j (3 + 8 * x) (11 + 8 * x)) → ((k : ℕ) → y ≡ k + 2 → Off j (43 + 24 * x + 8 * k) (51 + 24 * x + 8 * k))
      → lane (sum_lanes j s) x y ≡ lane s x y
  sum_same x y hx hy h1 h2 = sum-lane j s x y hx hy ∙ ap (bit_xor (lane s x y)) (sum-mark-none j x y hx hy h1 h2) ∙ xor_zero_r (lane s x y)

  pub shift_same : (x y : ℕ) → x < 5 → y < 5 → Off j (1051 + 4 * x) (1055 + 4 * x) → lane (shift_lanes j s) x y ≡ lane (sum_lanes j s) x y
  shift_same x y hx hy h = shift-lane j s x y hx hy ∙ ap (bit_xor (lane (sum_lanes j s) x y)) (shift-mark-none j x y h) ∙ xor_zero_r (lane (sum_lanes j s) x y)

  -- column x has no mark
  pub column-same : (x : ℕ) → x < 5 → Off j (3 + 8 * x) (11 + 8 * x) → Off j (43 + 24 * x) (67 + 24 * x) → parity_l (sum_lanes j s) x ≡ parity_l s x
  column-same x hx h1 h2 = parity-same (sum_lanes j s) s x (λ y hy. sum_same x y hx hy (λ e. h1) (λ k e a b. h2 (omega arith) (omega arith)))

  pub shifted-same : (x : ℕ) → x < 5 → Off j (1051 + 4 * x) (1055 + 4 * x) → parity_l (shift_lanes j s) x ≡ parity_l (sum_lanes j s) x
  shifted-same x hx h = parity-same (shift_lanes j s) (sum_lanes j s) x (λ y hy. shift_same x y hx hy h)

  pub theta-same : (x y : ℕ) → x < 5 → y < 5 → parity_l (sum_lanes j s) ((x + 4) % 5) ≡ parity_l s ((x + 4) % 5) → parity_l (shift_lanes j s) ((x + 1) % 5) ≡ parity_l s ((x + 1) % 5)
      → Off j (183 + 8 * x) (191 + 8 * x) → Off j (223 + (40 * x + 8 * y)) (231 + (40 * x + 8 * y)) → lane (theta_bent j s) x y ≡ lane (theta_l s) x y
  unfolding d_lane
  theta-same x y hx hy hc hr hd ht =
      theta-bent j s x y hx hy ∙ unmarked j (223 + (40 * x + 8 * y)) (bit_xor (lane s x y) (d_lane j s x)) (λ b hb e. ht (omega arith) (omega arith))
      ∙ ap (bit_xor (lane s x y)) (unmarked j (183 + 8 * x) _ (λ b hb e. hd (omega arith) (omega arith)) ∙ ap₂ (λ (m n : ℕ). bit_xor m (rot n 1)) hc hr)
      ∙ sym (theta-lane s x y hx hy)

  pub rho-same : (x y : ℕ) → x < 5 → y < 5 → Off j (1071 + (20 * x + 4 * y)) (1075 + (20 * x + 4 * y)) → lane (rho_bent j s) x y ≡ lane (theta_bent j s) x y
  rho-same x y hx hy h = rho-bent j s x y hx hy ∙ unmarked (2 * j) (2 * (1071 + (20 * x + 4 * y))) (lane (theta_bent j s) x y) (λ b hb e. h (omega arith) (omega arith))

  pub pi-same : (x y : ℕ) → x < 5 → y < 5 → lane (rho_bent j s) ((x + 3 * y) % 5) x ≡ lane (theta_l s) ((x + 3 * y) % 5) x → lane (pi_bent j s) x y ≡ lane (rho_pi_l (theta_l s)) x y
  pi-same x y hx hy e =
      rho_pi-lane (rho_bent j s) x y hx hy ∙ ap (λ (n : ℕ). rot n (RHO ((x + 3 * y) % 5) x)) e ∙ sym (rho_pi-lane (theta_l s) x y hx hy)

  -- χ, where neither of its rules is j
  pub chi-form : (x y : ℕ) → x < 5 → y < 5 → Off j (623 + (40 * x + 8 * y)) (631 + (40 * x + 8 * y)) → Off j (823 + (40 * x + 8 * y)) (831 + (40 * x + 8 * y))
      → lane (chi_bent j s) x y ≡ bit_xor (lane (pi_bent j s) x y) (bit_and (2 ^ 64 - 1 - lane (pi_bent j s) ((x + 1) % 5) y) (lane (pi_bent j s) ((x + 2) % 5) y))
  chi-form x y hx hy ha hc =
      chi-bent j s x y hx hy ∙ unmarked j (823 + (40 * x + 8 * y)) _ (λ b hb e. hc (omega arith) (omega arith))
      ∙ ap (bit_xor (lane (pi_bent j s) x y)) (ands-bent j s x y hx hy ∙ unmarked j (623 + (40 * x + 8 * y)) _ (λ b hb e. ha (omega arith) (omega arith)))
