-- What each call that writes round rows leaves in the slice that it is lent: the new words and then the old ones past
-- them, or, where it is refused (Refusals.antt), the old ones.
use Rattle.std.specs.Prelude.{ℕ, List, length}
use Rattle.lists.specs.Tab.{tab, word}
use Rattle.bits.specs.Bits.{word_at}
use Rattle.answer.specs.Refusal.{overwrite, afterwards}
use Rattle.keccak.specs.Row.{op_at}
use Rattle.keccak.specs.Refusals.{op_count}
use Rattle.keccak_rnd.specs.Row.{round_row, round_rows, round_table}
use Rattle.keccak_rnd.specs.Refusals.{round_row_refusal, round_trace_refusal, round_rows_refusal}

-- `keccak_rnd_row`: the row of a round, START being the first 25 words of `start`
abbrev pub round_row_after : ℕ → List ℕ → ℕ → List ℕ → List ℕ
round_row_after timestamp start round row =
    afterwards (round_row_refusal round start row)
    (overwrite (round_row (word_at timestamp) round (tab 25 (word start))) row) row

-- `generate_keccak_rnd_trace`: the table of a list, nr rows to an operation, of `floor` rows or more
abbrev pub round_trace_after : ℕ → ℕ → List ℕ → List ℕ → List ℕ
round_trace_after nr floor ops table =
    afterwards (round_trace_refusal nr floor (length table) ops)
    (overwrite (round_table nr floor (op_count ops) (op_at ops)) table) table

-- `keccak_rnd_rows`: the rows of a list, with no padding
abbrev pub round_rows_after : ℕ → List ℕ → List ℕ → List ℕ
round_rows_after nr ops table =
    afterwards (round_rows_refusal nr (length table) ops)
    (overwrite (round_rows nr (op_count ops) (op_at ops)) table) table
