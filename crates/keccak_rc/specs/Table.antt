-- tables/keccak_rc.rs, `generate_keccak_rc_trace` and `update_multiplicities`: the table and its MU.
use Rattle.std.specs.Prelude.{ℕ, zero, suc, ◌+◌, ◌-◌, ◌*◌, List, [], ◌∷◌, ◌++◌, ltb, length, set}
use Rattle.std.proofs.Math.Option.{Option}
use Rattle.lists.specs.Tab.{table_of, pick}
use Rattle.answer.specs.Refusal.{accepted, overwrite, afterwards, over_limit, too_short, not_rounds}
use Rattle.answer.specs.declared.Refusal.{Refusal}
use Rattle.keccak_rc.specs.Columns.{MU, NUM-COLUMNS, NUM-REAL-ROWS, NUM-ROWS, TABLE-WORDS}
use Rattle.keccak_rc.specs.Row.{rc_row}

-- `generate_keccak_rc_trace`: 32 rows of the nine fixed words and MU, which is 0.
unfoldable pub rc_table : List ℕ
rc_table = table_of NUM-ROWS NUM-COLUMNS (λ r. rc_row r ++ (0 ∷ []))

-- What it refuses: 3 a table shorter than 32 rows.
unfoldable pub rc_trace_refusal : List ℕ → Option Refusal
rc_trace_refusal table = too_short (length table) TABLE-WORDS accepted

-- What it leaves: the table, or the old words where it is refused.
abbrev pub rc_trace_after : List ℕ → List ℕ
rc_trace_after table = afterwards (rc_trace_refusal table) (overwrite rc_table table) table

-- A table with MU of the rows 0 to m - 1 set, that of row r to f r, and every other word as it was.
unfoldable pub with_mu : (ℕ → ℕ) → ℕ → List ℕ → List ℕ
with_mu f zero table = table
with_mu f (suc r) table = set (with_mu f r table) (r * NUM-COLUMNS + MU) (f r)

-- How often n operations of nr rounds look up round r, below 24: the rounds 24 - nr to 23 once each, the others never.
unfoldable pub times_looked_up : ℕ → ℕ → ℕ → ℕ
times_looked_up nr n r = pick (ltb r (NUM-REAL-ROWS - nr)) 0 n

-- "`update_multiplicities` sets MU of rounds 24 − nr to 23 to the count, of lower ones to 0"; and nothing else.
unfoldable pub updated : ℕ → ℕ → List ℕ → List ℕ
updated nr n table = with_mu (times_looked_up nr n) NUM-REAL-ROWS table

-- What it refuses: 8 a number of rounds that is 0 or above 24, 1 more operations than the limit, 3 a table shorter than 32
-- rows.
unfoldable pub update_refusal : ℕ → List ℕ → ℕ → Option Refusal
update_refusal nr table n = not_rounds nr (over_limit n (too_short (length table) TABLE-WORDS accepted))

-- What it leaves: the table with its MU, or the old words where it is refused.
abbrev pub update_after : ℕ → List ℕ → ℕ → List ℕ
update_after nr table n = afterwards (update_refusal nr table n) (updated nr n table) table
