-- What a bent row sends is not the round of its START.
use mathlib.Core.Path.{◌≡◌, refl, sym, ap, ap₂, ◌∙◌, subst}
use mathlib.Core.Bool.{Bool, true, false, ◌&&◌}
use mathlib.Core.List.{List}
use Prim.Native.Nat.{ℕ, zero, suc, ◌+◌, ◌-◌, ◌*◌, ◌/◌, ◌%◌, ◌^◌, ◌≤◌, ◌<◌}
use native.Mathlib.Omega.{arith}
use lib.Bits.{bit_xor, bit_and, xor_lt, and_lt, xor_zero_r}
use lib.Dec.{T, eqb, eqb→eq}
use lib.Pow.{ones_sub-lt}
use Rattle.lists.specs.Tab.{pick, word}
use Rattle.lists.specs.Sum.{all_below}
use Rattle.lists.proofs.Sum.{and_left, and_right, all-at}
use Rattle.lists.proofs.Tests.{T_of}
use Rattle.bits.specs.Bits.{byte_at, lane_of, rot}
use Rattle.bits.proofs.Bytes.{lane-of-bytes}
use Rattle.bits.proofs.Rotate.{rot-lt}
use Rattle.fips202.specs.Fips.{RHO}
use Rattle.fips202.specs.Lanes.{lane, Lanes, parity_l, theta_l, rho_pi_l, chi_l, iota_at, iota_l, rnd_l}
use Rattle.fips202.specs.Tables.{round_constant}
use Rattle.fips202.proofs.Steps.{lane-lt, lane-of, lane-grid, parity-lt, theta-lane, theta-lanes, rho_pi-lane, rho_pi-lanes, chi-lane, chi-lanes}
use Rattle.fips202.proofs.Rounds.{rc-lt}
use Rattle.fips202.proofs.Tables.{constant-below}
use Rattle.keccak_rnd.specs.Columns.{chi, iota}
use Rattle.keccak_rnd.specs.Tuples.{out, out_lanes}
use Rattle.keccak_rnd_needed.specs.Bent.{mark, half_mark, sum_mark, sum_lanes, shift_mark, shift_lanes, d_lane, theta_bent, rho_bent, pi_bent, ands_bent, chi_bent, rc_bent, iota_bent, bent_row}
use Rattle.keccak_rnd_needed.proofs.Marks.{xor-cancel, xor-cancel-left, xor-none, rot-cancel, pick-off, pick-on, mark-lt, mark-some, unmarked}
use Rattle.keccak_rnd_needed.proofs.Cells.{read-chi, read-iota}
use Rattle.keccak_rnd_needed.proofs.Steps.{sum-mark-lt, sum-mark-late, shift-mark-lt, sum-lane, shift-lane, theta-bent, rho-bent, ands-bent, chi-bent, sum-lanes, shift-lanes, d-bent-lt, rho-bent-lt, pi-bent-lt}
use Rattle.keccak_rnd_needed.proofs.Same.{Off, parity-one, sum_same, column-same, shifted-same, theta-same, rho-same, pi-same, chi-form}

-- ---- where ρ and π bring a lane and the two that χ joins to it: lane (x, y) of θ comes to (y, 2x + 3y), (x + 1, y + 1) and (x + 2, y + 2) beside it
pub at-lanes : (f g : ℕ → ℕ → ℕ) → all_below 25 (λ k. eqb (f (k % 5) (k / 5)) (g (k % 5) (k / 5))) ≡ true → (x y : ℕ) → x < 5 → y < 5 → f x y ≡ g x y
at-lanes f g t x y hx hy =
    let k : ℕ = x + 5 * y in
    sym (ap₂ f (place x y hx).0 (place x y hx).1) ∙ eqb→eq (f (k % 5) (k / 5)) (g (k % 5) (k / 5)) (all-at 25 (λ k. eqb (f (k % 5) (k / 5)) (g (k % 5) (k / 5))) (T_of _ t) k (omega arith))
    ∙ ap₂ g (place x y hx).0 (place x y hx).1
  where
    place : (x y : ℕ) → x < 5 → ((x + 5 * y) % 5 ≡ x) × ((x + 5 * y) / 5 ≡ y)
    place x y hx = omega arith

pub pi-from-0 : (x y : ℕ) → x < 5 → y < 5 → (y + 3 * ((2 * x + 3 * y) % 5)) % 5 ≡ x
unfolding all_below
pi-from-0 = at-lanes (λ x y. (y + 3 * ((2 * x + 3 * y) % 5)) % 5) (λ x y. x) refl

pub pi-from-1 : (x y : ℕ) → x < 5 → y < 5 → ((y + 1) % 5 + 3 * ((2 * x + 3 * y) % 5)) % 5 ≡ (x + 1) % 5
unfolding all_below
pi-from-1 = at-lanes (λ x y. ((y + 1) % 5 + 3 * ((2 * x + 3 * y) % 5)) % 5) (λ x y. (x + 1) % 5) refl

pi-from-2 : (x y : ℕ) → x < 5 → y < 5 → ((y + 2) % 5 + 3 * ((2 * x + 3 * y) % 5)) % 5 ≡ (x + 2) % 5
unfolding all_below
pi-from-2 = at-lanes (λ x y. ((y + 2) % 5 + 3 * ((2 * x + 3 * y) % 5)) % 5) (λ x y. (x + 2) % 5) refl

module _ (j : ℕ) (stamp : ℕ → ℕ) (r : ℕ) (s : List ℕ) (hs : Lanes s) (hr : r < 24) where
  abbrev row : List ℕ
  row = bent_row j stamp r s

  -- the standard's lanes after π and χ
  abbrev pi_true : List ℕ
  pi_true = rho_pi_l (theta_l s)

  abbrev chi_true : List ℕ
  chi_true = chi_l pi_true

  pi-true-lt : Lanes pi_true
  pi-true-lt = rho_pi-lanes (theta_l s) (theta-lanes s hs)

  chi-true-lt : Lanes chi_true
  chi-true-lt = chi-lanes pi_true pi-true-lt

  -- ---- below 2^64
  ands-lt : (x y : ℕ) → x < 5 → y < 5 → lane (ands_bent j s) x y < 2 ^ 64
  ands-lt x y hx hy =
      subst (λ (n : ℕ). n < 2 ^ 64) (sym (ands-bent j s x y hx hy))
      (xor_lt 64 (bit_and (2 ^ 64 - 1 - lane (pi_bent j s) ((x + 1) % 5) y) (lane (pi_bent j s) ((x + 2) % 5) y)) (mark j (623 + (40 * x + 8 * y)))
      (and_lt 64 (2 ^ 64 - 1 - lane (pi_bent j s) ((x + 1) % 5) y) (lane (pi_bent j s) ((x + 2) % 5) y) (ones_sub-lt 64 (lane (pi_bent j s) ((x + 1) % 5) y))
      (lane-lt (pi_bent j s) (pi-bent-lt j s hs) ((x + 2) % 5) y (omega arith) hy))
      (mark-lt j (623 + (40 * x + 8 * y))))

  chi-lt : (x y : ℕ) → x < 5 → y < 5 → lane (chi_bent j s) x y < 2 ^ 64
  chi-lt x y hx hy =
      subst (λ (n : ℕ). n < 2 ^ 64) (sym (chi-bent j s x y hx hy))
      (xor_lt 64 (bit_xor (lane (pi_bent j s) x y) (lane (ands_bent j s) x y)) (mark j (823 + (40 * x + 8 * y)))
      (xor_lt 64 (lane (pi_bent j s) x y) (lane (ands_bent j s) x y) (lane-lt (pi_bent j s) (pi-bent-lt j s hs) x y hx hy) (ands-lt x y hx hy))
      (mark-lt j (823 + (40 * x + 8 * y))))

  constant-lt : round_constant r < 2 ^ 64
  constant-lt = subst (λ (n : ℕ). n < 2 ^ 64) (sym (constant-below r hr)) (rc-lt r hr)

  bit-lt64 : (t : Bool) → pick {A = ℕ} t 1 0 < 2 ^ 64
  bit-lt64 true = omega arith
  bit-lt64 false = omega arith

  rc-bent-lt : rc_bent j r < 2 ^ 64
  unfolding rc_bent
  rc-bent-lt = xor_lt 64 (round_constant r) (pick (eqb 2 j) 1 0) constant-lt (bit-lt64 (eqb 2 j))

  iota-lt : iota_bent j r s < 2 ^ 64
  unfolding iota_bent
  iota-lt =
      xor_lt 64 (bit_xor (lane (chi_bent j s) 0 0) (rc_bent j r)) (mark j 1023) (xor_lt 64 (lane (chi_bent j s) 0 0) (rc_bent j r) (chi-lt 0 0 (omega arith) (omega arith)) rc-bent-lt)
      (mark-lt j 1023)

  -- ---- lanes that are sent, and those of the round
  zeros : (x y : ℕ) → T (eqb x 0 && eqb y 0) → (x ≡ 0) × (y ≡ 0)
  zeros x y t = (eqb→eq x 0 (and_left (eqb x 0) (eqb y 0) t), eqb→eq y 0 (and_right (eqb x 0) (eqb y 0) t))

  sent-lane : (x y : ℕ) → x < 5 → y < 5 → lane (out_lanes row) x y ≡ pick (eqb x 0 && eqb y 0) (iota_bent j r s) (lane (chi_bent j s) x y)
  unfolding out_lanes
  sent-lane x y hx hy = lane-grid (λ x y. lane_of (λ b. word row (out x y b))) x y hx hy ∙ go (eqb x 0 && eqb y 0)
    where
      go : (t : Bool) → lane_of (λ b. word row (pick t (iota b) (chi x y b))) ≡ pick t (iota_bent j r s) (lane (chi_bent j s) x y)
      go true = lane-of-bytes (iota_bent j r s) (λ b. word row (iota b)) iota-lt (λ b hb. read-iota j stamp r s b hb)
      go false = lane-of-bytes (lane (chi_bent j s) x y) (λ b. word row (chi x y b)) (chi-lt x y hx hy) (λ b hb. read-chi j stamp r s x y b hx hy hb)

  pub sent-byte : (x y b : ℕ) → x < 5 → y < 5 → b < 8 → word row (out x y b) ≡ byte_at (lane (out_lanes row) x y) b
  sent-byte x y b hx hy hb = go (eqb x 0 && eqb y 0) ∙ sym (ap (λ (n : ℕ). byte_at n b) (sent-lane x y hx hy))
    where
      go : (t : Bool) → word row (pick t (iota b) (chi x y b)) ≡ byte_at (pick t (iota_bent j r s) (lane (chi_bent j s) x y)) b
      go true = read-iota j stamp r s b hb
      go false = read-chi j stamp r s x y b hx hy hb

  round-lane : (x y : ℕ) → x < 5 → y < 5 → lane (rnd_l s r) x y ≡ pick (eqb x 0 && eqb y 0) (bit_xor (lane chi_true x y) (round_constant r)) (lane chi_true x y)
  unfolding rnd_l iota_l iota_at
  round-lane x y hx hy =
      lane-grid (iota_at r chi_true) x y hx hy ∙ ap (λ (k : ℕ). pick (eqb x 0 && eqb y 0) (bit_xor (lane chi_true x y) k) (lane chi_true x y)) (sym (constant-below r hr))

  pub sent-lanes : Lanes (out_lanes row)
  sent-lanes i l = rw (lane-of (out_lanes row) i) (subst (λ (n : ℕ). n < 2 ^ 64) (sym (sent-lane (i % 5) (i / 5) (omega arith) (omega arith))) (go (eqb (i % 5) 0 && eqb (i / 5) 0)))
    where
      go : (t : Bool) → pick t (iota_bent j r s) (lane (chi_bent j s) (i % 5) (i / 5)) < 2 ^ 64
      go true = iota-lt
      go false = chi-lt (i % 5) (i / 5) (omega arith) (omega arith)

  -- suppose that it were
  module _ (e : (x y : ℕ) → x < 5 → y < 5 → lane (out_lanes row) x y ≡ lane (rnd_l s r) x y) where
    both : (x y : ℕ) → x < 5 → y < 5 → pick (eqb x 0 && eqb y 0) (iota_bent j r s) (lane (chi_bent j s) x y) ≡ pick (eqb x 0 && eqb y 0) (bit_xor (lane chi_true x y) (round_constant r)) (lane chi_true x y)
    both x y hx hy = sym (sent-lane x y hx hy) ∙ e x y hx hy ∙ round-lane x y hx hy

    iota-true : iota_bent j r s ≡ bit_xor (lane chi_true 0 0) (round_constant r)
    iota-true = both 0 0 (omega arith) (omega arith)

    -- χ is the standard's, where neither KeccakRc nor ι has rule j
    chi-true : (2 ≡ j → ⊥) → Off j 1023 1031 → (x y : ℕ) → x < 5 → y < 5 → lane (chi_bent j s) x y ≡ lane chi_true x y
    unfolding iota_bent rc_bent
    chi-true n2 ni x y hx hy = go (eqb x 0 && eqb y 0) (zeros x y) (both x y hx hy)
      where
        form : iota_bent j r s ≡ bit_xor (lane (chi_bent j s) 0 0) (round_constant r)
        form = unmarked j 1023 (bit_xor (lane (chi_bent j s) 0 0) (rc_bent j r)) (λ b hb q. ni (omega arith) (omega arith)) ∙ ap (bit_xor (lane (chi_bent j s) 0 0)) (ap (bit_xor (round_constant r)) (pick-off 2 j n2) ∙ xor_zero_r (round_constant r))

        go : (t : Bool) → (T t → (x ≡ 0) × (y ≡ 0)) → pick t (iota_bent j r s) (lane (chi_bent j s) x y) ≡ pick t (bit_xor (lane chi_true x y) (round_constant r)) (lane chi_true x y)
            → lane (chi_bent j s) x y ≡ lane chi_true x y
        go false z q = q
        go true z q =
            xor-cancel (lane (chi_bent j s) x y) (lane chi_true x y) (round_constant r) (chi-lt x y hx hy) (lane-lt chi_true chi-true-lt x y hx hy)
            (ap₂ (λ (m n : ℕ). bit_xor (lane (chi_bent j s) m n) (round_constant r)) (z tt).0 (z tt).1 ∙ sym form ∙ q)

    -- and so lane (x, y) that goes into ρ is θ's, where the two lanes that χ joins to it are
    rho-true : (2 ≡ j → ⊥) → Off j 623 1031 → (x y : ℕ) → x < 5 → y < 5
        → lane (rho_bent j s) ((x + 1) % 5) ((y + 1) % 5) ≡ lane (theta_l s) ((x + 1) % 5) ((y + 1) % 5)
        → lane (rho_bent j s) ((x + 2) % 5) ((y + 2) % 5) ≡ lane (theta_l s) ((x + 2) % 5) ((y + 2) % 5)
        → lane (rho_bent j s) x y ≡ lane (theta_l s) x y
    rho-true n2 n x y hx hy e1 e2 =
        let w : ℕ = (2 * x + 3 * y) % 5 in
        let hw : w < 5 = omega arith in
        let q1 : lane (pi_bent j s) ((y + 1) % 5) w ≡ lane pi_true ((y + 1) % 5) w
        = pi-same j s ((y + 1) % 5) w (omega arith) hw
        (subst (λ (m : ℕ). lane (rho_bent j s) m ((y + 1) % 5) ≡ lane (theta_l s) m ((y + 1) % 5)) (sym (pi-from-1 x y hx hy)) e1) in
        let q2 : lane (pi_bent j s) ((y + 2) % 5) w ≡ lane pi_true ((y + 2) % 5) w
        = pi-same j s ((y + 2) % 5) w (omega arith) hw
        (subst (λ (m : ℕ). lane (rho_bent j s) m ((y + 2) % 5) ≡ lane (theta_l s) m ((y + 2) % 5)) (sym (pi-from-2 x y hx hy)) e2) in
        let a : bit_xor (lane (pi_bent j s) y w) (bit_and (2 ^ 64 - 1 - lane pi_true ((y + 1) % 5) w) (lane pi_true ((y + 2) % 5) w))
        ≡ bit_xor (lane pi_true y w) (bit_and (2 ^ 64 - 1 - lane pi_true ((y + 1) % 5) w) (lane pi_true ((y + 2) % 5) w))
        = sym (chi-form j s y w hy hw (λ a b. n (omega arith) (omega arith)) (λ a b. n (omega arith) (omega arith))
        ∙ ap₂ (λ (m n : ℕ). bit_xor (lane (pi_bent j s) y w) (bit_and (2 ^ 64 - 1 - m) n)) q1 q2)
        ∙ chi-true n2 (λ a b. n (omega arith) b) y w hy hw ∙ chi-lane pi_true y w hy hw in
        let c : lane (pi_bent j s) y w ≡ lane pi_true y w
        = xor-cancel (lane (pi_bent j s) y w) (lane pi_true y w) _ (lane-lt (pi_bent j s) (pi-bent-lt j s hs) y w hy hw) (lane-lt pi_true pi-true-lt y w hy hw) a in
        let d : rot (lane (rho_bent j s) ((y + 3 * w) % 5) y) (RHO ((y + 3 * w) % 5) y) ≡ rot (lane (theta_l s) ((y + 3 * w) % 5) y) (RHO ((y + 3 * w) % 5) y)
        = sym (rho_pi-lane (rho_bent j s) y w hy hw) ∙ c ∙ rho_pi-lane (theta_l s) y w hy hw in
        subst (λ (m : ℕ). lane (rho_bent j s) m y ≡ lane (theta_l s) m y) (pi-from-0 x y hx hy)
        (rot-cancel (lane (rho_bent j s) ((y + 3 * w) % 5) y) (lane (theta_l s) ((y + 3 * w) % 5) y) (RHO ((y + 3 * w) % 5) y) (rho-lt ((y + 3 * w) % 5) y)
        (lane-lt (rho_bent j s) (rho-bent-lt j s hs) ((y + 3 * w) % 5) y (omega arith) hy) (lane-lt (theta_l s) (theta-lanes s hs) ((y + 3 * w) % 5) y (omega arith) hy) d)
      where
        rho-lt : (x y : ℕ) → RHO x y < 64
        rho-lt x y = omega arith

    -- ---- lanes that no mark has reached
    lane-true : (x y : ℕ) → x < 5 → y < 5 → Off j (3 + 8 * ((x + 4) % 5)) (11 + 8 * ((x + 4) % 5)) → Off j (43 + 24 * ((x + 4) % 5)) (67 + 24 * ((x + 4) % 5))
        → Off j (3 + 8 * ((x + 1) % 5)) (11 + 8 * ((x + 1) % 5)) → Off j (43 + 24 * ((x + 1) % 5)) (67 + 24 * ((x + 1) % 5)) → Off j (1051 + 4 * ((x + 1) % 5)) (1055 + 4 * ((x + 1) % 5))
        → Off j (183 + 8 * x) (191 + 8 * x) → Off j (223 + (40 * x + 8 * y)) (231 + (40 * x + 8 * y)) → lane (theta_bent j s) x y ≡ lane (theta_l s) x y
    lane-true x y hx hy a b c d f g h =
        theta-same j s x y hx hy (column-same j s ((x + 4) % 5) (omega arith) a b) (shifted-same j s ((x + 1) % 5) (omega arith) f ∙ column-same j s ((x + 1) % 5) (omega arith) c d) g h

    -- D[x], where its own rules are not j
    d-form : (x : ℕ) → Off j (183 + 8 * x) (191 + 8 * x) → d_lane j s x ≡ bit_xor (parity_l (sum_lanes j s) ((x + 4) % 5)) (rot (parity_l (shift_lanes j s) ((x + 1) % 5)) 1)
    unfolding d_lane
    d-form x n = unmarked j (183 + 8 * x) _ (λ b hb q. n (omega arith) (omega arith))

    module _ (nc : Off j 3 163) (nd : Off j 183 423) (nv : Off j 1051 1171) where
      pi-all : (x y : ℕ) → x < 5 → y < 5 → lane (pi_bent j s) x y ≡ lane pi_true x y
      pi-all x y hx hy =
          let v : ℕ = (x + 3 * y) % 5 in
          let hv : v < 5 = omega arith in
          pi-same j s x y hx hy
          (rho-same j s v x hv hx (λ a b. nv (omega arith) (omega arith))
          ∙ lane-true v x hv hx (λ a b. nc (omega arith) (omega arith)) (λ a b. nc (omega arith) (omega arith)) (λ a b. nc (omega arith) (omega arith)) (λ a b. nc (omega arith) (omega arith))
          (λ a b. nv (omega arith) (omega arith)) (λ a b. nd (omega arith) (omega arith)) (λ a b. nd (omega arith) (omega arith)))

      and-all : (x y : ℕ) → x < 5 → y < 5 → bit_and (2 ^ 64 - 1 - lane (pi_bent j s) ((x + 1) % 5) y) (lane (pi_bent j s) ((x + 2) % 5) y) ≡ bit_and (2 ^ 64 - 1 - lane pi_true ((x + 1) % 5) y) (lane pi_true ((x + 2) % 5) y)
      and-all x y hx hy = ap₂ (λ (m n : ℕ). bit_and (2 ^ 64 - 1 - m) n) (pi-all ((x + 1) % 5) y (omega arith) hy) (pi-all ((x + 2) % 5) y (omega arith) hy)

      chi-all : (x y : ℕ) → x < 5 → y < 5 → Off j 623 1023 → lane (chi_bent j s) x y ≡ lane chi_true x y
      chi-all x y hx hy n =
          chi-form j s x y hx hy (λ a b. n (omega arith) (omega arith)) (λ a b. n (omega arith) (omega arith))
          ∙ ap₂ bit_xor (pi-all x y hx hy) (and-all x y hx hy) ∙ sym (chi-lane pi_true x y hx hy)

    rc-same : (2 ≡ j → ⊥) → rc_bent j r ≡ round_constant r
    unfolding rc_bent
    rc-same n = ap (bit_xor (round_constant r)) (pick-off 2 j n) ∙ xor_zero_r (round_constant r)

    -- ---- ι, KeccakRc, χ and its ands
    pub no-iota : (b : ℕ) → b < 8 → 1023 + b ≡ j → ⊥
    unfolding iota_bent
    no-iota b hb q =
        let same : bit_xor (lane (chi_bent j s) 0 0) (rc_bent j r) ≡ bit_xor (lane chi_true 0 0) (round_constant r)
        = ap₂ bit_xor (chi-all (λ a b. omega arith) (λ a b. omega arith) (λ a b. omega arith) 0 0 (omega arith) (omega arith) (λ a b. omega arith)) (rc-same (λ z. omega arith)) in
        mark-some j 1023 b hb q (xor-none (bit_xor (lane (chi_bent j s) 0 0) (rc_bent j r)) (mark j 1023) (mark-lt j 1023) (iota-true ∙ sym same))

    pub no-rc : 2 ≡ j → ⊥
    unfolding iota_bent rc_bent
    no-rc q =
        let same : lane (chi_bent j s) 0 0 ≡ lane chi_true 0 0
        = chi-all (λ a b. omega arith) (λ a b. omega arith) (λ a b. omega arith) 0 0 (omega arith) (omega arith) (λ a b. omega arith) in
        let f : bit_xor (lane chi_true 0 0) (rc_bent j r) ≡ bit_xor (lane chi_true 0 0) (round_constant r)
        = sym (unmarked j 1023 (bit_xor (lane (chi_bent j s) 0 0) (rc_bent j r)) (λ b hb z. omega arith) ∙ ap (λ (n : ℕ). bit_xor n (rc_bent j r)) same) ∙ iota-true in
        let g : bit_xor (round_constant r) (pick (eqb 2 j) 1 0) ≡ round_constant r
        = xor-cancel-left (rc_bent j r) (round_constant r) (lane chi_true 0 0) rc-bent-lt constant-lt f in
        let z : ◌≡◌ {A = ℕ} 1 0 = sym (pick-on 2 j q) ∙ xor-none (round_constant r) (pick (eqb 2 j) 1 0) (bit-lt64 (eqb 2 j)) g in
        omega arith

    pub no-chi : (x y b : ℕ) → x < 5 → y < 5 → b < 8 → 823 + (40 * x + 8 * y) + b ≡ j → ⊥
    no-chi x y b hx hy hb q =
        let m : ℕ = mark j (823 + (40 * x + 8 * y)) in
        let nc : Off j 3 163 = λ a b. omega arith in
        let nd : Off j 183 423 = λ a b. omega arith in
        let nv : Off j 1051 1171 = λ a b. omega arith in
        let ands : lane (ands_bent j s) x y ≡ bit_and (2 ^ 64 - 1 - lane pi_true ((x + 1) % 5) y) (lane pi_true ((x + 2) % 5) y)
        = ands-bent j s x y hx hy ∙ unmarked j (623 + (40 * x + 8 * y)) _ (λ c hc z. omega arith) ∙ and-all nc nd nv x y hx hy in
        let f : bit_xor (lane chi_true x y) m ≡ lane chi_true x y
        = ap (λ (n : ℕ). bit_xor n m) (chi-lane pi_true x y hx hy ∙ sym (ap₂ bit_xor (pi-all nc nd nv x y hx hy) ands)) ∙ sym (chi-bent j s x y hx hy) ∙ chi-true (λ z. omega arith) (λ a b. omega arith) x y hx hy in
        mark-some j (823 + (40 * x + 8 * y)) b hb q (xor-none (lane chi_true x y) m (mark-lt j (823 + (40 * x + 8 * y))) f)

    pub no-ands : (x y b : ℕ) → x < 5 → y < 5 → b < 8 → 623 + (40 * x + 8 * y) + b ≡ j → ⊥
    no-ands x y b hx hy hb q =
        let m : ℕ = mark j (623 + (40 * x + 8 * y)) in
        let nc : Off j 3 163 = λ a b. omega arith in
        let nd : Off j 183 423 = λ a b. omega arith in
        let nv : Off j 1051 1171 = λ a b. omega arith in
        let a : ℕ = bit_and (2 ^ 64 - 1 - lane pi_true ((x + 1) % 5) y) (lane pi_true ((x + 2) % 5) y) in
        let a< : a < 2 ^ 64 = and_lt 64 (2 ^ 64 - 1 - lane pi_true ((x + 1) % 5) y) (lane pi_true ((x + 2) % 5) y) (ones_sub-lt 64 (lane pi_true ((x + 1) % 5) y)) (lane-lt pi_true pi-true-lt ((x + 2) % 5) y (omega arith) hy) in
        let f : bit_xor (lane pi_true x y) (bit_xor a m) ≡ bit_xor (lane pi_true x y) a
        = ap₂ bit_xor (sym (pi-all nc nd nv x y hx hy)) (ap (λ (n : ℕ). bit_xor n m) (sym (and-all nc nd nv x y hx hy)) ∙ sym (ands-bent j s x y hx hy))
        ∙ sym (chi-bent j s x y hx hy ∙ unmarked j (823 + (40 * x + 8 * y)) _ (λ c hc z. omega arith)) ∙ chi-true (λ z. omega arith) (λ a b. omega arith) x y hx hy ∙ chi-lane pi_true x y hx hy in
        let g : bit_xor a m ≡ a = xor-cancel-left (bit_xor a m) a (lane pi_true x y) (xor_lt 64 a m a< (mark-lt j (623 + (40 * x + 8 * y)))) a< f in
        mark-some j (623 + (40 * x + 8 * y)) b hb q (xor-none a m (mark-lt j (623 + (40 * x + 8 * y))) g)

    -- ---- θ and the shift identities of ρ
    pub no-theta : (x y b : ℕ) → x < 5 → y < 5 → b < 8 → 223 + (40 * x + 8 * y) + b ≡ j → ⊥
    no-theta x y b hx hy hb q =
        let m : ℕ = mark j (223 + (40 * x + 8 * y)) in
        let other : (v w : ℕ) → v < 5 → w < 5 → (v ≡ x → ⊥) → lane (rho_bent j s) v w ≡ lane (theta_l s) v w
        = λ v w hv hw ne. rho-same j s v w hv hw (λ a c. omega arith)
        ∙ lane-true v w hv hw (λ a c. omega arith) (λ a c. omega arith) (λ a c. omega arith) (λ a c. omega arith) (λ a c. omega arith) (λ a c. omega arith) (λ a c. ne (omega arith)) in
        let t : lane (rho_bent j s) x y ≡ lane (theta_l s) x y
        = rho-true (λ z. omega arith) (λ a c. omega arith) x y hx hy (other ((x + 1) % 5) ((y + 1) % 5) (omega arith) (omega arith) (λ z. omega arith)) (other ((x + 2) % 5) ((y + 2) % 5) (omega arith) (omega arith) (λ z. omega arith)) in
        let d : bit_xor (lane s x y) (d_lane j s x) ≡ lane (theta_l s) x y = d-part x y hx hy (λ a c. omega arith) (λ a c. omega arith) (λ a c. omega arith) in
        let f : bit_xor (lane (theta_l s) x y) m ≡ lane (theta_l s) x y
        = ap (λ (n : ℕ). bit_xor n m) (sym d) ∙ sym (theta-bent j s x y hx hy) ∙ sym (rho-same j s x y hx hy (λ a c. omega arith)) ∙ t in
        mark-some j (223 + (40 * x + 8 * y)) b hb q (xor-none (lane (theta_l s) x y) m (mark-lt j (223 + (40 * x + 8 * y))) f)
      where
        d-part : (x y : ℕ) → x < 5 → y < 5 → Off j 3 163 → Off j 1051 1071 → Off j 183 223 → bit_xor (lane s x y) (d_lane j s x) ≡ lane (theta_l s) x y
        d-part x y hx hy nc nv nd =
            ap (bit_xor (lane s x y))
            (d-form x (λ a b. nd (omega arith) (omega arith))
            ∙ ap₂ (λ (m n : ℕ). bit_xor m (rot n 1)) (column-same j s ((x + 4) % 5) (omega arith) (λ a b. nc (omega arith) (omega arith)) (λ a b. nc (omega arith) (omega arith)))
            (shifted-same j s ((x + 1) % 5) (omega arith) (λ a b. nv (omega arith) (omega arith))
            ∙ column-same j s ((x + 1) % 5) (omega arith) (λ a b. nc (omega arith) (omega arith)) (λ a b. nc (omega arith) (omega arith))))
            ∙ sym (theta-lane s x y hx hy)

    pub no-rho : (x y h : ℕ) → x < 5 → y < 5 → h < 4 → 1071 + (20 * x + 4 * y) + h ≡ j → ⊥
    no-rho x y h hx hy hh q =
        let m : ℕ = half_mark j (1071 + (20 * x + 4 * y)) in
        let here : (v w : ℕ) → v < 5 → w < 5 → lane (theta_bent j s) v w ≡ lane (theta_l s) v w
        = λ v w hv hw. lane-true v w hv hw (λ a c. omega arith) (λ a c. omega arith) (λ a c. omega arith) (λ a c. omega arith) (λ a c. omega arith) (λ a c. omega arith) (λ a c. omega arith) in
        let other : (v w : ℕ) → v < 5 → w < 5 → (v ≡ x → ⊥) → lane (rho_bent j s) v w ≡ lane (theta_l s) v w
        = λ v w hv hw ne. rho-same j s v w hv hw (λ a c. ne (omega arith)) ∙ here v w hv hw in
        let t : lane (rho_bent j s) x y ≡ lane (theta_l s) x y
        = rho-true (λ z. omega arith) (λ a c. omega arith) x y hx hy (other ((x + 1) % 5) ((y + 1) % 5) (omega arith) (omega arith) (λ z. omega arith)) (other ((x + 2) % 5) ((y + 2) % 5) (omega arith) (omega arith) (λ z. omega arith)) in
        let f : bit_xor (lane (theta_l s) x y) m ≡ lane (theta_l s) x y = ap (λ (n : ℕ). bit_xor n m) (sym (here x y hx hy)) ∙ sym (rho-bent j s x y hx hy) ∙ t in
        mark-some (2 * j) (2 * (1071 + (20 * x + 4 * y))) (2 * h) (omega arith) (omega arith) (xor-none (lane (theta_l s) x y) m (mark-lt (2 * j) (2 * (1071 + (20 * x + 4 * y)))) f)

    -- ---- D, the stages of C, and the shift identities of C
    -- where lane (x, 0) after θ is the standard's, so is D[x]
    d-true : (x : ℕ) → x < 5 → Off j 1071 1171 → Off j 223 423 → lane (rho_bent j s) x 0 ≡ lane (theta_l s) x 0 → d_lane j s x ≡ bit_xor (parity_l s ((x + 4) % 5)) (rot (parity_l s ((x + 1) % 5)) 1)
    d-true x hx nv nt t =
        xor-cancel-left (d_lane j s x) (bit_xor (parity_l s ((x + 4) % 5)) (rot (parity_l s ((x + 1) % 5)) 1)) (lane s x 0) (d-bent-lt j s hs x)
        (xor_lt 64 (parity_l s ((x + 4) % 5)) (rot (parity_l s ((x + 1) % 5)) 1) (parity-lt s hs ((x + 4) % 5) (omega arith)) (rot-lt (parity_l s ((x + 1) % 5)) 1 (omega arith) (parity-lt s hs ((x + 1) % 5) (omega arith))))
        (sym (rho-same j s x 0 hx (omega arith) (λ a b. nv (omega arith) (omega arith)) ∙ theta-bent j s x 0 hx (omega arith)
        ∙ unmarked j (223 + (40 * x + 8 * 0)) _ (λ c hc z. nt (omega arith) (omega arith))) ∙ t ∙ theta-lane s x 0 hx (omega arith))

    pub no-d : (x b : ℕ) → x < 5 → b < 8 → 183 + 8 * x + b ≡ j → ⊥
    unfolding d_lane
    no-d x b hx hb q =
        let m : ℕ = mark j (183 + 8 * x) in
        let other : (v w : ℕ) → v < 5 → w < 5 → (v ≡ x → ⊥) → lane (rho_bent j s) v w ≡ lane (theta_l s) v w
        = λ v w hv hw ne. rho-same j s v w hv hw (λ a c. omega arith)
        ∙ lane-true v w hv hw (λ a c. omega arith) (λ a c. omega arith) (λ a c. omega arith) (λ a c. omega arith) (λ a c. omega arith) (λ a c. ne (omega arith)) (λ a c. omega arith) in
        let t : lane (rho_bent j s) x 0 ≡ lane (theta_l s) x 0
        = rho-true (λ z. omega arith) (λ a c. omega arith) x 0 hx (omega arith) (other ((x + 1) % 5) 1 (omega arith) (omega arith) (λ z. omega arith)) (other ((x + 2) % 5) 2 (omega arith) (omega arith) (λ z. omega arith)) in
        let c₀ : parity_l (sum_lanes j s) ((x + 4) % 5) ≡ parity_l s ((x + 4) % 5) = column-same j s ((x + 4) % 5) (omega arith) (λ a c. omega arith) (λ a c. omega arith) in
        let c₁ : parity_l (shift_lanes j s) ((x + 1) % 5) ≡ parity_l s ((x + 1) % 5)
        = shifted-same j s ((x + 1) % 5) (omega arith) (λ a c. omega arith) ∙ column-same j s ((x + 1) % 5) (omega arith) (λ a c. omega arith) (λ a c. omega arith) in
        let f : bit_xor (bit_xor (parity_l s ((x + 4) % 5)) (rot (parity_l s ((x + 1) % 5)) 1)) m ≡ bit_xor (parity_l s ((x + 4) % 5)) (rot (parity_l s ((x + 1) % 5)) 1)
        = sym (ap₂ (λ (a b : ℕ). bit_xor (bit_xor a (rot b 1)) m) c₀ c₁) ∙ d-true x hx (λ a c. omega arith) (λ a c. omega arith) t in
        mark-some j (183 + 8 * x) b hb q (xor-none _ m (mark-lt j (183 + 8 * x)) f)

    -- lane (x, y) of the column sums has a mark, and no other
    module _ (x y : ℕ) (hx : x < 5) (hy : y < 5) (lo : 3 ≤ j) (hi : j < 163) (columns : (v : ℕ) → v < 5 → (v ≡ x → ⊥) → parity_l (sum_lanes j s) v ≡ parity_l s v)
        (lanes : (w : ℕ) → w < 5 → (w ≡ y → ⊥) → lane (sum_lanes j s) x w ≡ lane s x w) where
      shifted-columns : (v : ℕ) → v < 5 → (v ≡ x → ⊥) → parity_l (shift_lanes j s) v ≡ parity_l s v
      shifted-columns v hv ne = shifted-same j s v hv (λ a c. omega arith) ∙ columns v hv ne

      other-column : (v w : ℕ) → v < 5 → w < 5 → ((v + 4) % 5 ≡ x → ⊥) → ((v + 1) % 5 ≡ x → ⊥) → lane (rho_bent j s) v w ≡ lane (theta_l s) v w
      other-column v w hv hw n4 n1 =
          rho-same j s v w hv hw (λ a c. omega arith)
          ∙ theta-same j s v w hv hw (columns ((v + 4) % 5) (omega arith) n4) (shifted-columns ((v + 1) % 5) (omega arith) n1) (λ a c. omega arith) (λ a c. omega arith)

      sum-true : sum_mark j x y ≡ 0
      sum-true =
          let v : ℕ = (x + 1) % 5 in
          let hv : v < 5 = omega arith in
          let back : (v + 4) % 5 ≡ x = omega arith in
          let t : lane (rho_bent j s) v 0 ≡ lane (theta_l s) v 0
          = rho-true (λ z. omega arith) (λ a c. omega arith) v 0 hv (omega arith) (other-column ((v + 1) % 5) 1 (omega arith) (omega arith) (λ z. omega arith) (λ z. omega arith))
          (other-column ((v + 2) % 5) 2 (omega arith) (omega arith) (λ z. omega arith) (λ z. omega arith)) in
          let f : bit_xor (parity_l (sum_lanes j s) ((v + 4) % 5)) (rot (parity_l s ((v + 1) % 5)) 1) ≡ bit_xor (parity_l s ((v + 4) % 5)) (rot (parity_l s ((v + 1) % 5)) 1)
          = sym (d-form v (λ a c. omega arith) ∙ ap (λ (n : ℕ). bit_xor (parity_l (sum_lanes j s) ((v + 4) % 5)) (rot n 1)) (shifted-columns ((v + 1) % 5) (omega arith) (λ z. omega arith)))
          ∙ d-true v hv (λ a c. omega arith) (λ a c. omega arith) t in
          let g : parity_l (sum_lanes j s) ((v + 4) % 5) ≡ parity_l s ((v + 4) % 5)
          = xor-cancel (parity_l (sum_lanes j s) ((v + 4) % 5)) (parity_l s ((v + 4) % 5)) (rot (parity_l s ((v + 1) % 5)) 1) (parity-lt (sum_lanes j s) (sum-lanes j s hs) ((v + 4) % 5) (omega arith)) (parity-lt s hs ((v + 4) % 5) (omega arith)) f in
          let k : lane (sum_lanes j s) x y ≡ lane s x y
          = parity-one (sum_lanes j s) s x (sum-lanes j s hs) hs hx y hy lanes (subst (λ (n : ℕ). parity_l (sum_lanes j s) n ≡ parity_l s n) back g) in
          xor-none (lane s x y) (sum_mark j x y) (sum-mark-lt j x y) (sym (sum-lane j s x y hx hy) ∙ k)

    pub no-sum-1 : (x b : ℕ) → x < 5 → b < 8 → 3 + 8 * x + b ≡ j → ⊥
    unfolding sum_mark
    no-sum-1 x b hx hb q =
        mark-some j (3 + 8 * x) b hb q
        (sum-true x 1 hx (omega arith) (omega arith) (omega arith) (λ v hv ne. column-same j s v hv (λ a c. ne (omega arith)) (λ a c. omega arith))
        (λ w hw ne. sum_same j s x w hx hw (λ z. absurd (ne z)) (λ k z a c. omega arith)))

    pub no-sum : (x k b : ℕ) → x < 5 → k < 3 → b < 8 → 43 + 24 * x + 8 * k + b ≡ j → ⊥
    no-sum x k b hx hk hb q =
        mark-some j (43 + 24 * x + 8 * k) b hb q
        (sym (sum-mark-late j x k)
        ∙ sum-true x (k + 2) hx (omega arith) (omega arith) (omega arith) (λ v hv ne. column-same j s v hv (λ a c. omega arith) (λ a c. ne (omega arith)))
        (λ w hw ne. sum_same j s x w hx hw (λ z a c. omega arith) (λ i z a c. ne (omega arith))))

    pub no_shift : (x h : ℕ) → x < 5 → h < 4 → 1051 + 4 * x + h ≡ j → ⊥
    unfolding shift_mark
    no_shift x h hx hh q =
        let v : ℕ = (x + 4) % 5 in
        let hv : v < 5 = omega arith in
        let back : (v + 1) % 5 ≡ x = omega arith in
        let column : (v : ℕ) → v < 5 → parity_l (sum_lanes j s) v ≡ parity_l s v = λ v hv. column-same j s v hv (λ a c. omega arith) (λ a c. omega arith) in
        let other : (v w : ℕ) → v < 5 → w < 5 → ((v + 1) % 5 ≡ x → ⊥) → lane (rho_bent j s) v w ≡ lane (theta_l s) v w
        = λ v w hv hw ne. rho-same j s v w hv hw (λ a c. omega arith)
        ∙ theta-same j s v w hv hw (column ((v + 4) % 5) (omega arith)) (shifted-same j s ((v + 1) % 5) (omega arith) (λ a c. ne (omega arith)) ∙ column ((v + 1) % 5) (omega arith)) (λ a c. omega arith) (λ a c. omega arith) in
        let t : lane (rho_bent j s) v 0 ≡ lane (theta_l s) v 0
        = rho-true (λ z. omega arith) (λ a c. omega arith) v 0 hv (omega arith) (other ((v + 1) % 5) 1 (omega arith) (omega arith) (λ z. omega arith)) (other ((v + 2) % 5) 2 (omega arith) (omega arith) (λ z. omega arith)) in
        let shift< : parity_l (shift_lanes j s) ((v + 1) % 5) < 2 ^ 64 = parity-lt (shift_lanes j s) (shift-lanes j s hs) ((v + 1) % 5) (omega arith) in
        let true< : parity_l s ((v + 1) % 5) < 2 ^ 64 = parity-lt s hs ((v + 1) % 5) (omega arith) in
        let f : bit_xor (parity_l s ((v + 4) % 5)) (rot (parity_l (shift_lanes j s) ((v + 1) % 5)) 1) ≡ bit_xor (parity_l s ((v + 4) % 5)) (rot (parity_l s ((v + 1) % 5)) 1)
        = sym (d-form v (λ a c. omega arith) ∙ ap (λ (n : ℕ). bit_xor n (rot (parity_l (shift_lanes j s) ((v + 1) % 5)) 1)) (column ((v + 4) % 5) (omega arith)))
        ∙ d-true v hv (λ a c. omega arith) (λ a c. omega arith) t in
        let g : parity_l (shift_lanes j s) ((v + 1) % 5) ≡ parity_l s ((v + 1) % 5)
        = rot-cancel (parity_l (shift_lanes j s) ((v + 1) % 5)) (parity_l s ((v + 1) % 5)) 1 (omega arith) shift< true<
        (xor-cancel-left (rot (parity_l (shift_lanes j s) ((v + 1) % 5)) 1) (rot (parity_l s ((v + 1) % 5)) 1) (parity_l s ((v + 4) % 5)) (rot-lt (parity_l (shift_lanes j s) ((v + 1) % 5)) 1 (omega arith) shift<) (rot-lt (parity_l s ((v + 1) % 5)) 1 (omega arith) true<) f) in
        let k : lane (shift_lanes j s) x 0 ≡ lane (sum_lanes j s) x 0
        = parity-one (shift_lanes j s) (sum_lanes j s) x (shift-lanes j s hs) (sum-lanes j s hs) hx 0 (omega arith) (λ w hw ne. later w hw ne)
        (subst (λ (n : ℕ). parity_l (shift_lanes j s) n ≡ parity_l s n) back g ∙ sym (column x hx)) in
        mark-some (2 * j) (2 * (1051 + 4 * x)) (2 * h) (omega arith) (omega arith)
        (xor-none (lane (sum_lanes j s) x 0) (shift_mark j x 0) (shift-mark-lt j x 0) (sym (shift-lane j s x 0 hx (omega arith)) ∙ k))
      where
        later : (w : ℕ) → w < 5 → (w ≡ 0 → ⊥) → lane (shift_lanes j s) x w ≡ lane (sum_lanes j s) x w
        later zero hw ne = absurd (ne refl)
        later (suc w) hw ne = shift-lane j s x (suc w) hx hw ∙ xor_zero_r (lane (sum_lanes j s) x (suc w))
