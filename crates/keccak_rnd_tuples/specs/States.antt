-- The words of a Keccak tuple's state, as the code copies them.
use Rattle.std.specs.Prelude.{List, ◌&&◌, ℕ, ◌+◌, ◌*◌, ◌/◌, ◌%◌, eqb}
use Rattle.lists.specs.Tab.{pick, word}
use Rattle.keccak.specs.Columns.{lane_column}

-- word k of the lanes of one x, 8 words to a lane, of which the first stands from column `from` on and the next 40
-- columns further
unfoldable pub lane_word : List ℕ → ℕ → ℕ → ℕ
lane_word row from k = word row (from + k / 8 * 40 + k % 8)

-- byte b of lane (x, y) of the state at `base`
unfoldable pub column_word : List ℕ → ℕ → ℕ → ℕ → ℕ → ℕ
column_word row base x y b = word row (lane_column base x y b)

-- the same, but that lane (0, 0) stands from column `first` on
unfoldable pub state_word : List ℕ → ℕ → ℕ → ℕ → ℕ → ℕ → ℕ
state_word row first base x y b = word row (pick (eqb x 0 && eqb y 0) (first + b) (lane_column base x y b))
