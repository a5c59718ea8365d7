-- What is added to the counters lane by lane, as the code charges it: what two lanes add byte by byte, and the lanes of each step of a
-- round. proofs/Round.antt: together they are what the tuples of the round's row add.
use Rattle.std.specs.Prelude.{ℕ, ◌+◌, ◌-◌, ◌*◌, ◌/◌, ◌%◌, ◌^◌, List, eqb, get_or}
use Rattle.std.specs.Int.Bits.{bit_xor, bit_and}
use Rattle.lists.specs.Tab.{pick, tab}
use Rattle.lists.specs.Sum.{sum_below}
use Rattle.bits.specs.Bits.{byte_at, lane_of, left_byte, right_byte, rot}
use Rattle.fips202.specs.Fips.{RHO}
use Rattle.fips202.specs.Lanes.{lane, parity_l, theta_dl, rho_pi_l, chi_l}
use Rattle.fips202.specs.Tables.{round_constant}

-- the kinds, as in `lookup_type_index`
abbrev pub ARE-BYTES : ℕ
ARE-BYTES = 3

abbrev pub AND : ℕ
AND = 7

abbrev pub XOR : ℕ
XOR = 9

-- ---- counters
-- one more on counter `at`
unfoldable pub one : ℕ → ℕ → ℕ
one at c = pick (eqb c at) 1 0

-- what n parts add, part i adding F i
unfoldable pub parts : ℕ → (ℕ → ℕ → ℕ) → ℕ → ℕ
parts n F c = sum_below n (λ i. F i c)

-- and what two add
unfoldable pub both : (ℕ → ℕ) → (ℕ → ℕ) → ℕ → ℕ
both F G c = F c + G c

-- ---- lanes
-- two lanes, byte by byte, as kind k
unfoldable pub lane_adds : ℕ → ℕ → ℕ → ℕ → ℕ
lane_adds k a b = parts 8 (λ z. one ((byte_at a z + byte_at b z * 256) * 10 + k))

-- the low and the high byte of each halfword of a lane, as kind AreBytes
unfoldable pub halves_add : ℕ → ℕ → ℕ
halves_add a = parts 4 (λ h. one ((byte_at a (2 * h) + byte_at a (2 * h + 1) * 256) * 10 + ARE-BYTES))

-- ---- the steps
-- θ, column x: two lanes, and then one more at each stage
unfoldable pub column_adds : List ℕ → ℕ → ℕ → ℕ
column_adds s x =
    let a = bit_xor (get_or s x 0) (get_or s (x + 5) 0) in
    let b = bit_xor a (get_or s (x + 10) 0) in
    let d = bit_xor b (get_or s (x + 15) 0) in
    both
    (both (lane_adds XOR (get_or s x 0) (get_or s (x + 5) 0)) (lane_adds XOR a (get_or s (x + 10) 0)))
    (both (lane_adds XOR b (get_or s (x + 15) 0)) (lane_adds XOR d (get_or s (x + 20) 0)))

-- from the parities C: the shifted halfwords of C[x], and D[x]
unfoldable pub turn_adds : List ℕ → ℕ → ℕ → ℕ
turn_adds c x =
    both (halves_add (lane_of (left_byte (byte_at (get_or c x 0)) 1)))
    (lane_adds XOR (get_or c ((x + 4) % 5) 0) (rot (get_or c ((x + 1) % 5) 0) 1))

-- lane i and D of its column
unfoldable pub theta_adds : List ℕ → List ℕ → ℕ → ℕ → ℕ
theta_adds s d i = lane_adds XOR (get_or s i 0) (get_or d (i % 5) 0)

-- ρ's two parts of lane i
unfoldable pub rho_adds : List ℕ → ℕ → ℕ → ℕ
rho_adds t i =
    let n = RHO (i % 5) (i / 5) % 16 in
    lane_adds ARE-BYTES (lane_of (left_byte (byte_at (get_or t i 0)) n)) (lane_of (right_byte (byte_at (get_or t i 0)) n))

-- χ's and of lane i, and lane i with it
unfoldable pub chi_adds : List ℕ → ℕ → ℕ → ℕ
chi_adds u i =
    let a = 2 ^ 64 - 1 - lane u ((i % 5 + 1) % 5) (i / 5) in
    let b = lane u ((i % 5 + 2) % 5) (i / 5) in
    both (lane_adds AND a b) (lane_adds XOR (get_or u i 0) (bit_and a b))

-- θ from START s, and the rest of round r from the state t after θ
unfoldable pub front_adds : List ℕ → ℕ → ℕ
front_adds s =
    let c = tab 5 (parity_l s) in
    both (both (parts 5 (column_adds s)) (parts 5 (turn_adds c))) (parts 25 (theta_adds s (tab 5 (theta_dl c))))

unfoldable pub rest_adds : ℕ → List ℕ → ℕ → ℕ
rest_adds r t =
    let u = rho_pi_l t in
    both (both (parts 25 (rho_adds t)) (parts 25 (chi_adds u))) (lane_adds XOR (get_or (chi_l u) 0 0) (round_constant r))
