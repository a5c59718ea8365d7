-- The limits that the interface sets on what a call is handed.
use Rattle.std.specs.Prelude.{ℕ}

-- The most operations in one list: the largest n with 24 · n ≤ 2^31, so that their round table has at most 2^31 rows.
abbrev pub MAX-OPS : ℕ
MAX-OPS = 89478485

-- The most rounds of an operation: Keccak-f[1600] has 24.
abbrev pub MAX-ROUNDS : ℕ
MAX-ROUNDS = 24
