-- The refusals of the calls that write round rows.
use Rattle.std.specs.Prelude.{ℕ, ◌*◌, List, length}
use Rattle.std.proofs.Math.Option.{Option}
use Rattle.answer.specs.Refusal.{accepted, past_end, too_short, not_rounds, not_floor, count_refusal}
use Rattle.answer.specs.declared.Refusal.{Refusal}
use Rattle.keccak.specs.Refusals.{op_count, operations_refusal}
use Rattle.keccak_rnd.specs.Columns.{NUM-COLUMNS}
use Rattle.keccak_rnd.specs.Row.{round_height}

-- `keccak_rnd_row`: 1 "round to be written (≥ 24)", 3 START shorter than its 25 lanes, then a row shorter than its
-- columns
unfoldable pub round_row_refusal : ℕ → List ℕ → List ℕ → Option Refusal
round_row_refusal round start row =
    past_end 24 round
    (too_short (length start) 25
    (too_short (length row) NUM-COLUMNS
    accepted))

-- The calls that take a number of rounds refuse it first: "Refused: 8, nr is 0 or above 24, detail nr, before 1."
-- and then a floor: "9, any other floor, detail the floor, after 8 and before 1."
-- `generate_keccak_rnd_trace`: a table of `room` words is to hold the rows up to the height
unfoldable pub round_trace_refusal : ℕ → ℕ → ℕ → List ℕ → Option Refusal
round_trace_refusal nr floor room ops =
    not_rounds nr
    (not_floor floor
    (operations_refusal room (round_height nr floor (op_count ops) * NUM-COLUMNS) ops))

-- `keccak_rnd_rows`: the same without padding, so that there is no floor
unfoldable pub round_rows_refusal : ℕ → ℕ → List ℕ → Option Refusal
round_rows_refusal nr room ops = not_rounds nr (operations_refusal room (op_count ops * nr * NUM-COLUMNS) ops)

-- `keccak_rnd_height`, `padding_are_bytes`: 8, then 9, then 1 on the number of operations
unfoldable pub round_count_refusal : ℕ → ℕ → ℕ → Option Refusal
round_count_refusal nr floor n = not_rounds nr (not_floor floor (count_refusal n))
