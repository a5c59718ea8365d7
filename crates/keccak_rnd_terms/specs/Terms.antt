-- The linear terms of a round row as one list: C rotated by one, π, and 255 less π, x outermost.
use Rattle.std.specs.Prelude.{ℕ, ◌+◌, ◌-◌, ◌*◌, ◌/◌, ◌%◌, ◌≤◌, ◌<◌, ◌≡◌, List, length}
use Rattle.lists.specs.Tab.{followed_by, word}
use Rattle.field.specs.Field.{fadd}
use Rattle.fips202.specs.Fips.{RHO}
use Rattle.keccak.specs.Columns.{by_xyb}
use Rattle.keccak_rnd.specs.Columns.{ROT-LEFT, ROT-RIGHT}
use Rattle.keccak_rnd.specs.Tuples.{rotated_c_at, pi_at, not_pi_at}
use Rattle.keccak_rnd_terms.specs.declared.Source.{Source}

abbrev pub NUM-TERMS : ℕ
NUM-TERMS = 440

-- where those of π begin, and those of 255 less π
abbrev pub PI : ℕ
PI = 40

abbrev pub NOT-PI : ℕ
NOT-PI = 240

unfoldable pub term : List ℕ → ℕ → ℕ
term row = followed_by 40 (λ k. rotated_c_at row (k / 8) (k % 8)) (followed_by 200 (by_xyb (pi_at row)) (by_xyb (not_pi_at row)))

-- a list that begins with them
pub record TermsOf (row terms : List ℕ) : Type 0 where
  pub long : NUM-TERMS ≤ length terms
  pub is : (k : ℕ) → k < NUM-TERMS → word terms k ≡ term row k

-- where the parts of π's lane (x, y) stand, which is ρ's lane (x + 3y, x), and by how many bytes they are still to be moved
pub record SourceOf (x y : ℕ) (s : Source) : Type 0 where
  pub left_is : s.left ≡ ROT-LEFT + ((x + 3 * y) % 5 + 5 * x) * 8
  pub right_is : s.right ≡ ROT-RIGHT + ((x + 3 * y) % 5 + 5 * x) * 8
  pub moved-is : s.moved ≡ 2 * (RHO ((x + 3 * y) % 5) x / 16)

-- the sum of the two parts at a byte
unfoldable pub sum_of : List ℕ → Source → ℕ → ℕ
sum_of row s z = fadd (word row (s.left + (z + (8 - s.moved)) % 8)) (word row (s.right + (z + (14 - s.moved)) % 8))
