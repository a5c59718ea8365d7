-- A part of a Keccak tuple's values, for the functions that write it.
use Rattle.std.specs.Prelude.{ℕ, ◌/◌, ◌%◌, List}
use Rattle.lists.specs.Tab.{word}
use Rattle.keccak.specs.Columns.{lane_column}

-- word k of the 40 of column x of a state: five lanes by y, 8 bytes each
unfoldable pub sheet_word : List ℕ → ℕ → ℕ → ℕ → ℕ
sheet_word row base x k = word row (lane_column base x (k / 8) (k % 8))
