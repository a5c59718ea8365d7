-- tables/is_wh.rs, cols: the columns of a row of the IS_WH table.
use Rattle.std.specs.Prelude.{ℕ}

-- value[i], i from 0 to 2: the half of the pair (bits 16 to 31 of the checked value), then the low and the high half of
-- the word (bits 32 to 47, and 48 to 63).
abbrev pub value : ℕ → ℕ
value i = i

-- How many sends of the pair the row receives.
abbrev pub MU : ℕ
MU = 3

abbrev pub NUM-COLUMNS : ℕ
NUM-COLUMNS = 4
