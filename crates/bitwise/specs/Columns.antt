-- tables/bitwise.rs, `cols`: the 21 columns of a row, and how many rows, kinds and counters there are.
use Rattle.std.specs.Prelude.{ℕ}

-- 256 · 256 · 16 rows: one for each X, Y and Z.
abbrev pub NUM-ROWS : ℕ
NUM-ROWS = 1048576

-- The two bytes X and Y, and the shift Z, below 16.
abbrev pub X : ℕ
X = 0

abbrev pub Y : ℕ
Y = 1

abbrev pub Z : ℕ
Z = 2

-- X and Y, X or Y, X xor Y.
abbrev pub AND : ℕ
AND = 3

abbrev pub OR : ℕ
OR = 4

abbrev pub XOR : ℕ
XOR = 5

-- The top bit of X, and of the halfword X + 256 Y.
abbrev pub MSB8 : ℕ
MSB8 = 6

abbrev pub MSB16 : ℕ
MSB16 = 7

-- Whether X, Y and Z are all 0.
abbrev pub ZERO : ℕ
ZERO = 8

-- The halfword shifted left by Z: its low sixteen bits, and its carry.
abbrev pub SLL : ℕ
SLL = 9

abbrev pub SLLC : ℕ
SLLC = 10

-- The columns above are fixed by the row's index.
abbrev pub NUM-PRECOMPUTED-COLS : ℕ
NUM-PRECOMPUTED-COLS = 11

-- The multiplicities: how often other tables look the row up, a column for each kind of lookup.
abbrev pub MU-MSB8 : ℕ
MU-MSB8 = 11

abbrev pub MU-MSB16 : ℕ
MU-MSB16 = 12

abbrev pub MU-ZERO : ℕ
MU-ZERO = 13

abbrev pub MU-ARE-BYTES : ℕ
MU-ARE-BYTES = 14

abbrev pub MU-IS-HALF : ℕ
MU-IS-HALF = 15

abbrev pub MU-IS-B20 : ℕ
MU-IS-B20 = 16

abbrev pub MU-HWSL : ℕ
MU-HWSL = 17

abbrev pub MU-BYTE-ALU-AND : ℕ
MU-BYTE-ALU-AND = 18

abbrev pub MU-BYTE-ALU-OR : ℕ
MU-BYTE-ALU-OR = 19

abbrev pub MU-BYTE-ALU-XOR : ℕ
MU-BYTE-ALU-XOR = 20

abbrev pub NUM-COLUMNS : ℕ
NUM-COLUMNS = 21

-- The words of the table: 2^20 rows of 21.
abbrev pub TABLE-WORDS : ℕ
TABLE-WORDS = 22020096

-- The kinds of lookup.
abbrev pub NUM-LOOKUP-TYPES : ℕ
NUM-LOOKUP-TYPES = 10

-- A counter for each kind of each row.
abbrev pub NUM-COUNTERS : ℕ
NUM-COUNTERS = 10485760

-- The least Z that is refused.
abbrev pub Z-END : ℕ
Z-END = 16
