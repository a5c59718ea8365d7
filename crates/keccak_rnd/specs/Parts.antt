-- The tables of bytes that a round row is written from, and the row in three parts, as the code writes it.
use Rattle.std.specs.Prelude.{ℕ, ◌+◌, ◌*◌, ◌/◌, ◌%◌, ◌<◌, List, [], ◌∷◌, eqb, get_or}
use Rattle.std.specs.Int.Bits.{bit_xor}
use Rattle.lists.specs.Tab.{pick, tab, word, Group, group}
use Rattle.bits.specs.Bits.{byte_at, lane_byte, word_at, lane_of, halfword, hwsl_carry, left_byte}
use Rattle.fips202.specs.Lanes.{lane, rounds_l}
use Rattle.fips202.specs.Tables.{round_constant}
use Rattle.keccak_rnd.specs.Columns.{cxz-right-bit-for-byte}
use Rattle.keccak_rnd.specs.Row.{cxz_byte, c_byte, cxz_right_bit, d_byte, rot_left_byte, rot_right_byte}
use Rattle.keccak_rnd.specs.Row.{and_lanes, by_lane, round_row}

-- ---- the tables of bytes by lane: C in its four stages, the two parts of C rotated by one, D
unfoldable pub stages_of : List ℕ → ℕ → List (List ℕ)
stages_of s x = tab 4 (λ k. tab 8 (cxz_byte s x k))

unfoldable pub cxz_table : List ℕ → List (List (List ℕ))
cxz_table s = tab 5 (stages_of s)

unfoldable pub left_table : List ℕ → List (List ℕ)
left_table s = tab 5 (λ x. tab 8 (left_byte (c_byte s x) 1))

unfoldable pub right_table : List ℕ → List (List ℕ)
right_table s = tab 5 (λ x. tab 4 (cxz_right_bit s x))

unfoldable pub d_table : List ℕ → List (List ℕ)
d_table s = tab 5 (λ x. tab 8 (d_byte s x))

-- the eight bytes of C[x] in a table of stages
abbrev pub parity_bytes : List (List (List ℕ)) → ℕ → List ℕ
parity_bytes cxz x = get_or (get_or cxz x []) 3 []

-- the low parts of the four halfwords of eight bytes shifted by one, as bytes; and their carries
unfoldable pub left_bytes : List ℕ → List ℕ
left_bytes c = tab 8 (left_byte (word c) 1)

unfoldable pub right_bits : List ℕ → List ℕ
right_bits c = tab 4 (λ h. hwsl_carry (halfword (word c) h) 1)

-- the sum of the two parts at a byte: an even byte takes the carry of the halfword below it, byte 0 that of halfword 3
unfoldable pub rotated_from : List ℕ → List ℕ → ℕ → ℕ
rotated_from left right b = word left b + pick (eqb (b % 2) 0) (word right (cxz-right-bit-for-byte b)) 0

-- the two parts share no bit, so that each sum is a byte
abbrev pub Joins : List ℕ → List ℕ → Type 0
Joins left right = (h : ℕ) → h < 4 → word left (2 * h) + word right ((h + 3) % 4) < 256

-- D[x] from the tables
unfoldable pub d_bytes : List (List (List ℕ)) → List (List ℕ) → List (List ℕ) → ℕ → List ℕ
d_bytes cxz left right x =
    tab 8
    (λ b.
    bit_xor (word (parity_bytes cxz ((x + 4) % 5)) b)
    (rotated_from (get_or left ((x + 1) % 5) []) (get_or right ((x + 1) % 5) []) b))

-- what each cell of a table's group holds
unfoldable pub stage_cell : List (List (List ℕ)) → ℕ → ℕ
stage_cell t k = word (get_or (get_or t (k / 32) []) (k / 8 % 4) []) (k % 8)

unfoldable pub byte_cell : List (List ℕ) → ℕ → ℕ
byte_cell t k = word (get_or t (k / 8) []) (k % 8)

unfoldable pub bit_cell : List (List ℕ) → ℕ → ℕ
bit_cell t k = word (get_or t (k / 4) []) (k % 4)

-- ---- the row in three parts
-- timestamp, ROUND, START, and the four tables: 463 columns
unfoldable pub front_groups : (ℕ → ℕ) → ℕ → List ℕ → List (List (List ℕ)) → List (List ℕ) → List (List ℕ) → List (List ℕ)
    → List Group
front_groups stamp r s cxz left right d =
    group 2 stamp
    ∷ group 1 (λ k. r)
    ∷ group 200 (lane_byte s)
    ∷ group 160 (stage_cell cxz)
    ∷ group 40 (byte_cell left)
    ∷ group 20 (bit_cell right)
    ∷ group 40 (byte_cell d)
    ∷ []

-- THETA, ROT_LEFT, ROT_RIGHT, from the state t after θ: 600 columns
unfoldable pub rho_groups : List ℕ → List Group
rho_groups t =
    group 200 (lane_byte t) ∷ group 200 (by_lane (rot_left_byte t)) ∷ group 200 (by_lane (rot_right_byte t)) ∷ []

-- CHI_ANDS, CHI, RC, IOTA, MU, from the state u after π and the state v after χ: 417 columns
unfoldable pub chi_groups : ℕ → List ℕ → List ℕ → List Group
chi_groups r u v =
    group 200 (lane_byte (and_lanes u))
    ∷ group 200 (lane_byte v)
    ∷ group 8 (byte_at (round_constant r))
    ∷ group 8 (byte_at (bit_xor (lane v 0 0) (round_constant r)))
    ∷ group 1 (λ k. 1)
    ∷ []

-- the two parts of ρ of lane (x, y), as lanes
unfoldable pub left_lane : List ℕ → ℕ → ℕ → ℕ
left_lane t x y = lane_of (rot_left_byte t x y)

unfoldable pub right_lane : List ℕ → ℕ → ℕ → ℕ
right_lane t x y = lane_of (rot_right_byte t x y)

-- ---- the rows of one operation
-- row j of those from round `first` on: START is the lanes s after j rounds
unfoldable pub row_after : ℕ → ℕ → List ℕ → ℕ → List ℕ
row_after first timestamp s j = round_row (word_at timestamp) (first + j) (rounds_l first j s)
