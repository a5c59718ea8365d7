-- tables/keccak_rc.rs, `cols`: the ten columns of a row of round constants, and the number of rows.
use Rattle.std.specs.Prelude.{ℕ}

-- The round's number.
abbrev pub ROUND : ℕ
ROUND = 0

-- The eight bytes of its constant, lowest first.
abbrev pub RC : ℕ
RC = 1

-- How often the row is looked up.
abbrev pub MU : ℕ
MU = 9

abbrev pub NUM-COLUMNS : ℕ
NUM-COLUMNS = 10

-- Every column but MU is fixed by the round.
abbrev pub NUM-PRECOMPUTED-COLS : ℕ
NUM-PRECOMPUTED-COLS = 9

-- The rounds of Keccak-f[1600], and the rows, the next power of two.
abbrev pub NUM-REAL-ROWS : ℕ
NUM-REAL-ROWS = 24

abbrev pub NUM-ROWS : ℕ
NUM-ROWS = 32

-- The words of the whole table: 32 rows of 10.
abbrev pub TABLE-WORDS : ℕ
TABLE-WORDS = 320
