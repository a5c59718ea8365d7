-- Of the 911 tuples of keccak_rnd_lean no further one can be dropped. (That no other set of fewer tuples is enough is not said.)
--     LeanBut    an active row of words below p, all whose values are 0 and whose kept lookups are matched but number j, of which nothing is said
--     parts_row   START is zero, ROUND 0; ROT_LEFT and ROT_RIGHT of one lane (x, y) are other words whose identities hold mod p, and all that follows is made from their sums
-- proofs/Minimal.antt: `lean-minimal`, for each kept j but the two Keccak tuples, which are not looked up, there is such a row that is wrong.
use Rattle.std.specs.Prelude.{ℕ, ◌+◌, ◌-◌, ◌*◌, ◌/◌, ◌%◌, ◌^◌, ◌<◌, ◌≡◌, true, ◌&&◌, List, [], ◌∷◌, eqb, length}
use Rattle.std.specs.Int.Bits.{bit_xor}
use Rattle.lists.specs.Tab.{pick, word, Group, group, row_of}
use Rattle.field.specs.Field.{p}
use Rattle.bits.specs.Bits.{byte_at, lane_byte, lane_of, left_from}
use Rattle.fips202.specs.Fips.{RHO}
use Rattle.fips202.specs.Lanes.{grid, lane, chi_l}
use Rattle.matching.specs.Matching.{Matched}
use Rattle.keccak_rnd.specs.Columns.{MU, NUM-COLUMNS}
use Rattle.keccak_rnd.specs.Row.{and_lanes, by_lane}
use Rattle.keccak_rnd.specs.Values.{NUM-VALUES, round_value}
use Rattle.keccak_rnd.specs.Tuples.{NUM-TUPLES, round_tuple}
use Rattle.keccak_rnd_lean.specs.Lean.{kept}

pub record LeanBut (j : ℕ) (row : List ℕ) : Type 0 where
  pub size : length row ≡ NUM-COLUMNS
  pub below : (k : ℕ) → word row k < p
  pub on : word row MU ≡ 1
  pub values : (i : ℕ) → i < NUM-VALUES → round_value row i ≡ 0
  pub lookups : (i : ℕ) → i < NUM-TUPLES → kept i ≡ true → (i ≡ j → ⊥) → Matched (round_tuple row i)

-- ---- the words of a lane, mod p
-- where the tuple of byte 6 is dropped: those of bytes 0, 4 and 6 are not bytes
abbrev pub left6 : List ℕ
left6 = (p - 2 ^ 32 + 2 ^ 16) ∷ 0 ∷ 0 ∷ 0 ∷ 1 ∷ 0 ∷ (p - 2 ^ 48 + 2 ^ 16) ∷ 0 ∷ []

abbrev pub right6 : List ℕ
right6 = 255 ∷ 255 ∷ 0 ∷ 0 ∷ (2 ^ 48 - 2 ^ 16) ∷ 0 ∷ (255 + 2 ^ 32 - 2 ^ 16) ∷ 255 ∷ []

-- where that of byte 7 is: those of bytes 1, 5 and 7
abbrev pub left7 : List ℕ
left7 = 255 ∷ (p - 2 ^ 56 + 255) ∷ 0 ∷ 0 ∷ 1 ∷ 0 ∷ 0 ∷ (p - 2 ^ 40 + 256) ∷ []

abbrev pub right7 : List ℕ
right7 = 255 ∷ 255 ∷ 0 ∷ 0 ∷ 0 ∷ (2 ^ 40 - 256) ∷ 0 ∷ 2 ^ 56 ∷ []

-- left b + right (b - 2), mod p, of both: the bytes of p, from byte 4 on
abbrev pub sums : List ℕ
sums = 255 ∷ 255 ∷ 255 ∷ 255 ∷ 1 ∷ 0 ∷ 0 ∷ 0 ∷ []

-- for bytes 2 and 3 the same, four bytes on
abbrev pub turned_by : ℕ → ℕ → ℕ
turned_by d b = (b + (4 * (d / 4) + 4)) % 8

unfoldable pub part_left : ℕ → ℕ → ℕ
part_left d b = word (pick (eqb (d % 2) 0) left6 left7) (turned_by d b)

unfoldable pub part_right : ℕ → ℕ → ℕ
part_right d b = word (pick (eqb (d % 2) 0) right6 right7) (turned_by d b)

unfoldable pub part_sum : ℕ → ℕ → ℕ
part_sum d b = word sums (turned_by d b)

-- ---- the row, with these for byte d of lane (x, y)
unfoldable pub only_at : ℕ → ℕ → (ℕ → ℕ) → ℕ → ℕ → ℕ → ℕ
only_at x y f v w b = pick (eqb v x && eqb w y) (f b) 0

-- π: lane (x, y) of ρ comes to (y, 2x + 3y), turned by whole halfwords
unfoldable pub part_lane : ℕ → ℕ → ℕ → ℕ
part_lane x y d = lane_of (λ b. part_sum d (left_from (RHO x y / 16) b))

unfoldable pub part_pi : ℕ → ℕ → ℕ → List ℕ
part_pi x y d = grid (λ v w. pick (eqb ((v + 3 * w) % 5) x && eqb v y) (part_lane x y d) 0)

unfoldable pub parts_groups : ℕ → ℕ → ℕ → List Group
parts_groups x y d =
    group 663 (λ k. 0)
    ∷ group 200 (by_lane (only_at x y (part_left d)))
    ∷ group 200 (by_lane (only_at x y (part_right d)))
    ∷ group 200 (lane_byte (and_lanes (part_pi x y d)))
    ∷ group 200 (lane_byte (chi_l (part_pi x y d)))
    ∷ group 8 (byte_at 1)
    ∷ group 8 (byte_at (bit_xor (lane (chi_l (part_pi x y d)) 0 0) 1))
    ∷ group 1 (λ k. 1)
    ∷ []

unfoldable pub parts_row : ℕ → ℕ → ℕ → List ℕ
parts_row x y d = row_of (parts_groups x y d)
