-- The row that is bent at rule j: the written row of `stamp`, round r and START s (keccak_rnd/specs/Row.antt), but where rule j ties a byte to others, that byte has its lowest
-- bit flipped, and all that follows is made from the flipped one. So every rule holds but rule j. Each step is the written one with a mark added, which is 0 except
-- where its rule is j.
use Rattle.std.specs.Prelude.{ℕ, zero, suc, ◌+◌, ◌*◌, ◌/◌, ◌%◌, List, [], ◌∷◌, eqb}
use Rattle.std.specs.Int.Bits.{bit_xor}
use Rattle.lists.specs.Tab.{pick, group, Group, row_of}
use Rattle.bits.specs.Bits.{byte_at, lane_byte, lane_of, left_byte, rot}
use Rattle.fips202.specs.Lanes.{grid, lane, parity_l, rho_pi_l}
use Rattle.fips202.specs.Tables.{round_constant}
use Rattle.keccak_rnd.specs.Row.{cxz_byte, c_byte, cxz_right_bit, rot_left_byte, rot_right_byte, and_at, by_lane}

-- eight rules from n on, one to a byte: 1 in the byte whose rule is j, 0 in the others
unfoldable pub mark : ℕ → ℕ → ℕ
mark j n = lane_of (λ b. pick (eqb (n + b) j) 1 0)

-- four rules from n on, one to a halfword: 1 in the lower byte of the halfword whose rule is j
abbrev pub half_mark : ℕ → ℕ → ℕ
half_mark j n = mark (2 * j) (2 * n)

-- ---- θ
-- the lanes whose column sums stand in CXZ: lane (x, y) is added by the tuples of stage y - 1
unfoldable pub sum_mark : ℕ → ℕ → ℕ → ℕ
sum_mark j x zero = 0
sum_mark j x (suc zero) = mark j (3 + 8 * x)
sum_mark j x (suc (suc k)) = mark j (43 + 24 * x + 8 * k)

unfoldable pub sum_lanes : ℕ → List ℕ → List ℕ
sum_lanes j s = grid (λ x y. bit_xor (lane s x y) (sum_mark j x y))

-- the lanes whose column sums stand, shifted by one, in CXZ_LEFT and CXZ_RIGHT
unfoldable pub shift_mark : ℕ → ℕ → ℕ → ℕ
shift_mark j x zero = half_mark j (1051 + 4 * x)
shift_mark j x (suc y) = 0

unfoldable pub shift_lanes : ℕ → List ℕ → List ℕ
shift_lanes j s = grid (λ x y. bit_xor (lane (sum_lanes j s) x y) (shift_mark j x y))

-- D[x], and the state after θ
unfoldable pub d_lane : ℕ → List ℕ → ℕ → ℕ
d_lane j s x = bit_xor (bit_xor (parity_l (sum_lanes j s) ((x + 4) % 5)) (rot (parity_l (shift_lanes j s) ((x + 1) % 5)) 1)) (mark j (183 + 8 * x))

unfoldable pub theta_bent : ℕ → List ℕ → List ℕ
theta_bent j s = grid (λ x y. bit_xor (bit_xor (lane s x y) (d_lane j s x)) (mark j (223 + (40 * x + 8 * y))))

-- ---- ρ and π, χ, ι
-- the lanes whose shifted halfwords stand in ROT_LEFT and ROT_RIGHT
unfoldable pub rho_bent : ℕ → List ℕ → List ℕ
rho_bent j s = grid (λ x y. bit_xor (lane (theta_bent j s) x y) (half_mark j (1071 + (20 * x + 4 * y))))

abbrev pub pi_bent : ℕ → List ℕ → List ℕ
pi_bent j s = rho_pi_l (rho_bent j s)

unfoldable pub ands_bent : ℕ → List ℕ → List ℕ
ands_bent j s = grid (λ x y. bit_xor (and_at (pi_bent j s) x y) (mark j (623 + (40 * x + 8 * y))))

unfoldable pub chi_bent : ℕ → List ℕ → List ℕ
chi_bent j s = grid (λ x y. bit_xor (bit_xor (lane (pi_bent j s) x y) (lane (ands_bent j s) x y)) (mark j (823 + (40 * x + 8 * y))))

-- KeccakRc is one rule for all eight bytes: the lowest is bent
unfoldable pub rc_bent : ℕ → ℕ → ℕ
rc_bent j r = bit_xor (round_constant r) (pick (eqb 2 j) 1 0)

unfoldable pub iota_bent : ℕ → ℕ → List ℕ → ℕ
iota_bent j r s = bit_xor (bit_xor (lane (chi_bent j s) 0 0) (rc_bent j r)) (mark j 1023)

-- ---- the row
unfoldable pub bent_groups : ℕ → (ℕ → ℕ) → ℕ → List ℕ → List Group
bent_groups j stamp r s =
    group 2 stamp
    ∷ group 1 (λ k. r)
    ∷ group 200 (lane_byte s)
    ∷ group 160 (λ k. cxz_byte (sum_lanes j s) (k / 32) (k / 8 % 4) (k % 8))
    ∷ group 40 (λ k. left_byte (c_byte (shift_lanes j s) (k / 8)) 1 (k % 8))
    ∷ group 20 (λ k. cxz_right_bit (shift_lanes j s) (k / 4) (k % 4))
    ∷ group 40 (λ k. byte_at (d_lane j s (k / 8)) (k % 8))
    ∷ group 200 (lane_byte (theta_bent j s))
    ∷ group 200 (by_lane (rot_left_byte (rho_bent j s)))
    ∷ group 200 (by_lane (rot_right_byte (rho_bent j s)))
    ∷ group 200 (lane_byte (ands_bent j s))
    ∷ group 200 (lane_byte (chi_bent j s))
    ∷ group 8 (byte_at (rc_bent j r))
    ∷ group 8 (byte_at (iota_bent j r s))
    ∷ group 1 (λ k. 1)
    ∷ []

unfoldable pub bent_row : ℕ → (ℕ → ℕ) → ℕ → List ℕ → List ℕ
bent_row j stamp r s = row_of (bent_groups j stamp r s)
