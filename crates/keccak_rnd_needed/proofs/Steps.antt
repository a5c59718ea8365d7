-- The lanes of a bent row: below 2^64, and each byte follows from those before it but where its rule is j.
use mathlib.Core.Path.{◌≡◌, sym, ap, ap₂, ◌∙◌}
use mathlib.Core.List.{List}
use Prim.Native.Nat.{ℕ, zero, suc, ◌+◌, ◌-◌, ◌*◌, ◌%◌, ◌^◌, ◌<◌}
use native.Mathlib.Omega.{arith}
use lib.Bits.{bit_xor, bit_and, xor_lt, xor_zero_r}
use Rattle.bits.specs.Bits.{byte_at, rot}
use Rattle.bits.proofs.Bytes.{byte-xor}
use Rattle.bits.proofs.Rotate.{rot-lt}
use Rattle.fips202.specs.Lanes.{lane, Lanes, parity_l}
use Rattle.fips202.proofs.Steps.{lane-lt, parity-lt, lane-grid, grid-lanes, rho_pi-lanes}
use Rattle.keccak_rnd.specs.Row.{cxz_byte, c_byte, rotated_c, and_at}
use Rattle.keccak_rnd.proofs.Lanes.{c-byte, rotated-byte}
use Rattle.keccak_rnd_needed.specs.Bent.{mark, half_mark, sum_mark, sum_lanes, shift_mark, shift_lanes, d_lane, theta_bent, rho_bent, pi_bent, ands_bent, chi_bent}
use Rattle.keccak_rnd_needed.proofs.Marks.{mark-lt, marked-byte}

byte-same : (a m b : ℕ) → byte_at m b ≡ 0 → byte_at (bit_xor a m) b ≡ byte_at a b
byte-same a m b e = byte-xor a m b ∙ ap (bit_xor (byte_at a b)) e ∙ xor_zero_r (byte_at a b)

pub sum-mark-lt : (j x y : ℕ) → sum_mark j x y < 2 ^ 64
unfolding sum_mark
sum-mark-lt j x zero = omega arith
sum-mark-lt j x (suc zero) = mark-lt j (3 + 8 * x)
sum-mark-lt j x (suc (suc k)) = mark-lt j (43 + 24 * x + 8 * k)

pub shift-mark-lt : (j x y : ℕ) → shift_mark j x y < 2 ^ 64
unfolding shift_mark
shift-mark-lt j x zero = mark-lt (2 * j) (2 * (1051 + 4 * x))
shift-mark-lt j x (suc y) = omega arith

pub sum-mark-late : (j x k : ℕ) → sum_mark j x (k + 2) ≡ mark j (43 + 24 * x + 8 * k)
unfolding sum_mark
sum-mark-late j x k = ap (sum_mark j x) (two k)
  where
    two : (k : ℕ) → k + 2 ≡ suc (suc k)
    two k = omega arith

-- ---- lanes, by x and y
module _ (j : ℕ) (s : List ℕ) where
  pub sum-lane : (x y : ℕ) → x < 5 → y < 5 → lane (sum_lanes j s) x y ≡ bit_xor (lane s x y) (sum_mark j x y)
  unfolding sum_lanes
  sum-lane x y hx hy = lane-grid (λ x y. bit_xor (lane s x y) (sum_mark j x y)) x y hx hy

  pub shift-lane : (x y : ℕ) → x < 5 → y < 5 → lane (shift_lanes j s) x y ≡ bit_xor (lane (sum_lanes j s) x y) (shift_mark j x y)
  unfolding shift_lanes
  shift-lane x y hx hy = lane-grid (λ x y. bit_xor (lane (sum_lanes j s) x y) (shift_mark j x y)) x y hx hy

  pub theta-bent : (x y : ℕ) → x < 5 → y < 5 → lane (theta_bent j s) x y ≡ bit_xor (bit_xor (lane s x y) (d_lane j s x)) (mark j (223 + (40 * x + 8 * y)))
  unfolding theta_bent
  theta-bent x y hx hy = lane-grid (λ x y. bit_xor (bit_xor (lane s x y) (d_lane j s x)) (mark j (223 + (40 * x + 8 * y)))) x y hx hy

  pub rho-bent : (x y : ℕ) → x < 5 → y < 5 → lane (rho_bent j s) x y ≡ bit_xor (lane (theta_bent j s) x y) (half_mark j (1071 + (20 * x + 4 * y)))
  unfolding rho_bent
  rho-bent x y hx hy = lane-grid (λ x y. bit_xor (lane (theta_bent j s) x y) (half_mark j (1071 + (20 * x + 4 * y)))) x y hx hy

  pub ands-bent : (x y : ℕ) → x < 5 → y < 5
      → lane (ands_bent j s) x y ≡ bit_xor (bit_and (2 ^ 64 - 1 - lane (pi_bent j s) ((x + 1) % 5) y) (lane (pi_bent j s) ((x + 2) % 5) y)) (mark j (623 + (40 * x + 8 * y)))
  unfolding ands_bent and_at
  ands-bent x y hx hy = lane-grid (λ x y. bit_xor (and_at (pi_bent j s) x y) (mark j (623 + (40 * x + 8 * y)))) x y hx hy

  pub chi-bent : (x y : ℕ) → x < 5 → y < 5
      → lane (chi_bent j s) x y ≡ bit_xor (bit_xor (lane (pi_bent j s) x y) (lane (ands_bent j s) x y)) (mark j (823 + (40 * x + 8 * y)))
  unfolding chi_bent
  chi-bent x y hx hy = lane-grid (λ x y. bit_xor (bit_xor (lane (pi_bent j s) x y) (lane (ands_bent j s) x y)) (mark j (823 + (40 * x + 8 * y)))) x y hx hy

  -- ---- below 2^64
  module _ (hs : Lanes s) where
    pub sum-lanes : Lanes (sum_lanes j s)
    unfolding sum_lanes
    sum-lanes = grid-lanes _ (λ x y hx hy. xor_lt 64 (lane s x y) (sum_mark j x y) (lane-lt s hs x y hx hy) (sum-mark-lt j x y))

    pub shift-lanes : Lanes (shift_lanes j s)
    unfolding shift_lanes
    shift-lanes = grid-lanes _ (λ x y hx hy. xor_lt 64 (lane (sum_lanes j s) x y) (shift_mark j x y) (lane-lt (sum_lanes j s) sum-lanes x y hx hy) (shift-mark-lt j x y))

    pub d-bent-lt : (x : ℕ) → d_lane j s x < 2 ^ 64
    unfolding d_lane
    d-bent-lt x =
        xor_lt 64 (bit_xor (parity_l (sum_lanes j s) ((x + 4) % 5)) (rot (parity_l (shift_lanes j s) ((x + 1) % 5)) 1)) (mark j (183 + 8 * x))
        (xor_lt 64 (parity_l (sum_lanes j s) ((x + 4) % 5)) (rot (parity_l (shift_lanes j s) ((x + 1) % 5)) 1) (parity-lt (sum_lanes j s) sum-lanes ((x + 4) % 5) (omega arith))
        (rot-lt (parity_l (shift_lanes j s) ((x + 1) % 5)) 1 (omega arith) (parity-lt (shift_lanes j s) shift-lanes ((x + 1) % 5) (omega arith))))
        (mark-lt j (183 + 8 * x))

    pub theta-bent-lt : Lanes (theta_bent j s)
    unfolding theta_bent
    theta-bent-lt =
        grid-lanes _ (λ x y hx hy.
        xor_lt 64 (bit_xor (lane s x y) (d_lane j s x)) (mark j (223 + (40 * x + 8 * y))) (xor_lt 64 (lane s x y) (d_lane j s x) (lane-lt s hs x y hx hy) (d-bent-lt x))
        (mark-lt j (223 + (40 * x + 8 * y))))

    pub rho-bent-lt : Lanes (rho_bent j s)
    unfolding rho_bent
    rho-bent-lt =
        grid-lanes _ (λ x y hx hy.
        xor_lt 64 (lane (theta_bent j s) x y) (half_mark j (1071 + (20 * x + 4 * y))) (lane-lt (theta_bent j s) theta-bent-lt x y hx hy)
        (mark-lt (2 * j) (2 * (1071 + (20 * x + 4 * y)))))

    pub pi-bent-lt : Lanes (pi_bent j s)
    pi-bent-lt = rho_pi-lanes (rho_bent j s) rho-bent-lt

  -- ---- bytes, but where the rule is j
  pub sum-byte-0 : (x b : ℕ) → x < 5 → byte_at (lane (sum_lanes j s) x 0) b ≡ byte_at (lane s x 0) b
  unfolding sum_mark
  sum-byte-0 x b hx = ap (λ (n : ℕ). byte_at n b) (sum-lane x 0 hx (omega arith) ∙ xor_zero_r (lane s x 0))

  pub sum-byte-1 : (x b : ℕ) → x < 5 → b < 8 → (3 + 8 * x + b ≡ j → ⊥) → byte_at (lane (sum_lanes j s) x 1) b ≡ byte_at (lane s x 1) b
  unfolding sum_mark
  sum-byte-1 x b hx hb h = ap (λ (n : ℕ). byte_at n b) (sum-lane x 1 hx (omega arith)) ∙ marked-byte j (3 + 8 * x) (lane s x 1) b hb h

  pub sum-byte : (x k b : ℕ) → x < 5 → k < 3 → b < 8 → (43 + 24 * x + 8 * k + b ≡ j → ⊥) → byte_at (lane (sum_lanes j s) x (k + 2)) b ≡ byte_at (lane s x (k + 2)) b
  sum-byte x k b hx hk hb h =
      ap (λ (n : ℕ). byte_at n b) (sum-lane x (k + 2) hx (omega arith)) ∙ ap (λ (m : ℕ). byte_at (bit_xor (lane s x (k + 2)) m) b) (sum-mark-late j x k)
      ∙ marked-byte j (43 + 24 * x + 8 * k) (lane s x (k + 2)) b hb h

  -- C, as it is shifted and as it is not
  pub shift-byte : (x b : ℕ) → x < 5 → b < 8 → (2 * (1051 + 4 * x) + b ≡ 2 * j → ⊥) → c_byte (shift_lanes j s) x b ≡ c_byte (sum_lanes j s) x b
  unfolding cxz_byte shift_mark
  shift-byte x b hx hb h =
      let zeroth : byte_at (lane (shift_lanes j s) x 0) b ≡ byte_at (lane (sum_lanes j s) x 0) b = ap (λ (n : ℕ). byte_at n b) (shift-lane x 0 hx (omega arith)) ∙ marked-byte (2 * j) (2 * (1051 + 4 * x)) (lane (sum_lanes j s) x 0) b hb h in
      let later : (y : ℕ) → suc y < 5 → byte_at (lane (shift_lanes j s) x (suc y)) b ≡ byte_at (lane (sum_lanes j s) x (suc y)) b = λ y hy. ap (λ (n : ℕ). byte_at n b) (shift-lane x (suc y) hx hy ∙ xor_zero_r (lane (sum_lanes j s) x (suc y))) in
      ap₂ bit_xor (ap₂ bit_xor (ap₂ bit_xor (ap₂ bit_xor zeroth (later 0 (omega arith))) (later 1 (omega arith))) (later 2 (omega arith))) (later 3 (omega arith))

  pub d-bent-byte : Lanes s → (x b : ℕ) → x < 5 → b < 8 → (183 + 8 * x + b ≡ j → ⊥)
      → byte_at (d_lane j s x) b ≡ bit_xor (c_byte (sum_lanes j s) ((x + 4) % 5) b) (rotated_c (shift_lanes j s) ((x + 1) % 5) b)
  unfolding d_lane
  d-bent-byte hs x b hx hb h =
      let m : ℕ = parity_l (sum_lanes j s) ((x + 4) % 5) in
      let n : ℕ = rot (parity_l (shift_lanes j s) ((x + 1) % 5)) 1 in
      marked-byte j (183 + 8 * x) (bit_xor m n) b hb h ∙ byte-xor m n b
      ∙ sym (ap₂ bit_xor (c-byte (sum_lanes j s) ((x + 4) % 5) b) (rotated-byte (shift_lanes j s) ((x + 1) % 5) (shift-lanes hs) (omega arith) b hb))

  pub theta-bent-byte : (x y b : ℕ) → x < 5 → y < 5 → b < 8 → (223 + (40 * x + 8 * y) + b ≡ j → ⊥)
      → byte_at (lane (theta_bent j s) x y) b ≡ bit_xor (byte_at (lane s x y) b) (byte_at (d_lane j s x) b)
  theta-bent-byte x y b hx hy hb h =
      ap (λ (n : ℕ). byte_at n b) (theta-bent x y hx hy) ∙ marked-byte j (223 + (40 * x + 8 * y)) (bit_xor (lane s x y) (d_lane j s x)) b hb h ∙ byte-xor (lane s x y) (d_lane j s x) b

  pub rho-bent-byte : (x y b : ℕ) → x < 5 → y < 5 → b < 8 → (2 * (1071 + (20 * x + 4 * y)) + b ≡ 2 * j → ⊥)
      → byte_at (lane (rho_bent j s) x y) b ≡ byte_at (lane (theta_bent j s) x y) b
  rho-bent-byte x y b hx hy hb h = ap (λ (n : ℕ). byte_at n b) (rho-bent x y hx hy) ∙ marked-byte (2 * j) (2 * (1071 + (20 * x + 4 * y))) (lane (theta_bent j s) x y) b hb h

  pub ands-bent-byte : (x y b : ℕ) → x < 5 → y < 5 → b < 8 → (623 + (40 * x + 8 * y) + b ≡ j → ⊥)
      → byte_at (lane (ands_bent j s) x y) b ≡ byte_at (bit_and (2 ^ 64 - 1 - lane (pi_bent j s) ((x + 1) % 5) y) (lane (pi_bent j s) ((x + 2) % 5) y)) b
  ands-bent-byte x y b hx hy hb h = ap (λ (n : ℕ). byte_at n b) (ands-bent x y hx hy) ∙ marked-byte j (623 + (40 * x + 8 * y)) _ b hb h

  pub chi-bent-byte : (x y b : ℕ) → x < 5 → y < 5 → b < 8 → (823 + (40 * x + 8 * y) + b ≡ j → ⊥)
      → byte_at (lane (chi_bent j s) x y) b ≡ bit_xor (byte_at (lane (pi_bent j s) x y) b) (byte_at (lane (ands_bent j s) x y) b)
  chi-bent-byte x y b hx hy hb h =
      ap (λ (n : ℕ). byte_at n b) (chi-bent x y hx hy) ∙ marked-byte j (823 + (40 * x + 8 * y)) (bit_xor (lane (pi_bent j s) x y) (lane (ands_bent j s) x y)) b hb h
      ∙ byte-xor (lane (pi_bent j s) x y) (lane (ands_bent j s) x y) b
