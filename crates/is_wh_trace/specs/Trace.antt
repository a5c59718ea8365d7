-- tables/is_wh.rs: the IS_WH table of a list of rows, three words a row as `dedup_is_wh_rows` writes them: the key's word and half,
-- and μ. And what `is_wh_height` and `generate_is_wh_trace` refuse.
use Rattle.std.specs.Prelude.{ℕ, ◌+◌, ◌*◌, ◌/◌, List, ltb, length}
use Rattle.std.proofs.Math.Option.{Option}
use Rattle.lists.specs.Tab.{pick, word, table_of}
use Rattle.answer.specs.Refusal.{accepted, past_end, overwrite, afterwards}
use Rattle.answer.specs.declared.Refusal.{Refusal}
use Rattle.is_wh.specs.Columns.{NUM-COLUMNS}
use Rattle.is_wh.specs.Row.{pair_row, pad_row}
use Rattle.keccak.specs.Height.{height, MIN-ROWS}
use Rattle.is_wh_rows.specs.Lists.{ROW-SIZE, MAX-KEYS, rows_refusal}

abbrev pub row_count : List ℕ → ℕ
row_count rows = length rows / ROW-SIZE

-- the row of entry i of the list
unfoldable pub trace_row : List ℕ → ℕ → List ℕ
trace_row rows i = pair_row (word rows (3 * i)) (word rows (3 * i + 1)) (word rows (3 * i + 2))

-- row i of a table that has n rows before the padding
unfoldable pub table_row : List ℕ → ℕ → ℕ → List ℕ
table_row rows n i = pick (ltb i n) (trace_row rows i) pad_row

-- `padded_rows`: "real_rows.next_power_of_two().max(4)"
abbrev pub is_wh_height : List ℕ → ℕ
is_wh_height rows = height MIN-ROWS (row_count rows)

unfoldable pub is_wh_table : List ℕ → List ℕ
is_wh_table rows = table_of (is_wh_height rows) NUM-COLUMNS (table_row rows (row_count rows))

-- ---- the calls
-- `is_wh_height`: 1 a number of rows past the most of a list
unfoldable pub height_refusal : ℕ → Option Refusal
height_refusal n = past_end (MAX-KEYS + 1) n accepted

-- `generate_is_wh_trace`: a list of rows, and a table of `room` words
unfoldable pub is_wh_trace_refusal : ℕ → List ℕ → Option Refusal
is_wh_trace_refusal room rows = rows_refusal room (is_wh_height rows * NUM-COLUMNS) rows accepted

unfoldable pub is_wh_trace_after : List ℕ → List ℕ → List ℕ
is_wh_trace_after rows table = afterwards (is_wh_trace_refusal (length table) rows) (overwrite (is_wh_table rows) table) table
