-- What each call that writes core rows or keys leaves in the slice that it is lent: the new words and then the old ones
-- past them, or, where it is refused (Refusals.antt), the old ones.
use Rattle.std.specs.Prelude.{ℕ, List, length}
use Rattle.answer.specs.Refusal.{overwrite, afterwards}
use Rattle.keccak.specs.Row.{op_at, core_row, core_rows, core_table, key_words}
use Rattle.keccak.specs.Refusals.{op_count, core_row_refusal, core_trace_refusal, core_rows_refusal, keys_refusal}

-- `keccak_row`: the row of operation `index` of a list
abbrev pub core_row_after : List ℕ → ℕ → List ℕ → List ℕ
core_row_after ops index row =
    afterwards (core_row_refusal (length row) ops index) (overwrite (core_row (op_at ops index)) row) row

-- `generate_keccak_trace`: the table of a list, of `floor` rows or more
abbrev pub core_trace_after : ℕ → List ℕ → List ℕ → List ℕ
core_trace_after floor ops table =
    afterwards (core_trace_refusal floor (length table) ops)
    (overwrite (core_table floor (op_count ops) (op_at ops)) table) table

-- `keccak_rows`: the rows of a list, with no padding
abbrev pub core_rows_after : List ℕ → List ℕ → List ℕ
core_rows_after ops table =
    afterwards (core_rows_refusal (length table) ops)
    (overwrite (core_rows (op_count ops) (op_at ops)) table) table

-- `is_wh_keys`: the keys of a list
abbrev pub keys_after : List ℕ → List ℕ → List ℕ
keys_after ops out = afterwards (keys_refusal (length out) ops) (overwrite (key_words (op_count ops) (op_at ops)) out) out
