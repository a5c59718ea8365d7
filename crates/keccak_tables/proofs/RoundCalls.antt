-- What the calls of the round table promise (src/round_calls.rt), as Kept.antt says.
use mathlib.Core.Path.{◌≡◌}
use lib.ListN.{length}
use Rattle.answer.specs.Refusal.{answer_of, number_of}
use Rattle.keccak_rnd.specs.Row.{round_height, padding-are-bytes}
use Rattle.keccak_rnd.specs.Refusals.{round_row_refusal, round_trace_refusal, round_rows_refusal, round_count_refusal}
use Rattle.keccak_rnd.specs.Calls.{round_row_after, round_trace_after, round_rows_after}
use Rattle.flat.specs.Flat.{flat_answer, flat_number}
use Rattle.keccak_tables.proofs.Kept.{Kept}
use Rattle.keccak_tables.proofs.round_calls.keccak_tables_keccak_rnd_row.Kinds as keccak-rnd-row-kinds
use Rattle.keccak_tables.proofs.round_calls.keccak_tables_keccak_rnd_row.Reads as keccak-rnd-row-reads
use Rattle.keccak_tables.proofs.round_calls.keccak_tables_generate_keccak_rnd_trace.Kinds as generate-keccak-rnd-trace-kinds
use Rattle.keccak_tables.proofs.round_calls.keccak_tables_generate_keccak_rnd_trace.Reads as generate-keccak-rnd-trace-reads
use Rattle.keccak_tables.proofs.round_calls.keccak_tables_keccak_rnd_rows.Kinds as keccak-rnd-rows-kinds
use Rattle.keccak_tables.proofs.round_calls.keccak_tables_keccak_rnd_rows.Reads as keccak-rnd-rows-reads
use Rattle.keccak_tables.proofs.round_calls.keccak_tables_keccak_rnd_height.Kinds as keccak-rnd-height-kinds
use Rattle.keccak_tables.proofs.round_calls.keccak_tables_keccak_rnd_height.Reads as keccak-rnd-height-reads
use Rattle.keccak_tables.proofs.round_calls.keccak_tables_padding_are_bytes.Kinds as padding-are-bytes-kinds
use Rattle.keccak_tables.proofs.round_calls.keccak_tables_padding_are_bytes.Reads as padding-are-bytes-reads

pub record RoundCalls : Type 0 where
  -- keccak_rnd_row(timestamp, start, round, row) → FlatAnswer
  pub keccak-rnd-row : Kept _ keccak-rnd-row-kinds.ps keccak-rnd-row-kinds.r keccak-rnd-row-reads.Asked keccak-rnd-row-reads.Learnt (λ _ lent answer ended.
      let timestamp = lent.0 in
      let start = lent.1.0.now in
      let round = lent.1.1.0 in
      let row = lent.1.1.1.0.now in
      let row' = ended.1.1.1.0.now in
      (answer ≡ flat_answer (answer_of (round_row_refusal round start row)))
      × (row' ≡ round_row_after timestamp start round row))
  -- generate_keccak_rnd_trace(nr, floor, ops, table) → FlatAnswer
  pub generate-keccak-rnd-trace : Kept _ generate-keccak-rnd-trace-kinds.ps generate-keccak-rnd-trace-kinds.r generate-keccak-rnd-trace-reads.Asked generate-keccak-rnd-trace-reads.Learnt (λ _ lent answer ended.
      let nr = lent.0 in
      let floor = lent.1.0 in
      let ops = lent.1.1.0.now in
      let table = lent.1.1.1.0.now in
      let table' = ended.1.1.1.0.now in
      (answer ≡ flat_answer (answer_of (round_trace_refusal nr floor (length table) ops)))
      × (table' ≡ round_trace_after nr floor ops table))
  -- keccak_rnd_rows(nr, ops, table) → FlatAnswer
  pub keccak-rnd-rows : Kept _ keccak-rnd-rows-kinds.ps keccak-rnd-rows-kinds.r keccak-rnd-rows-reads.Asked keccak-rnd-rows-reads.Learnt (λ _ lent answer ended.
      let nr = lent.0 in
      let ops = lent.1.0.now in
      let table = lent.1.1.0.now in
      let table' = ended.1.1.0.now in
      (answer ≡ flat_answer (answer_of (round_rows_refusal nr (length table) ops)))
      × (table' ≡ round_rows_after nr ops table))
  -- keccak_rnd_height(nr, floor, n) → FlatNumber
  pub keccak-rnd-height : Kept _ keccak-rnd-height-kinds.ps keccak-rnd-height-kinds.r keccak-rnd-height-reads.Asked keccak-rnd-height-reads.Learnt (λ _ lent answer ended.
      let nr = lent.0 in
      let floor = lent.1.0 in
      let n = lent.1.1.0 in
      answer ≡ flat_number (number_of (round_height nr floor n) (round_count_refusal nr floor n)))
  -- padding_are_bytes(nr, floor, n) → FlatNumber
  pub padding-are-bytes : Kept _ padding-are-bytes-kinds.ps padding-are-bytes-kinds.r padding-are-bytes-reads.Asked padding-are-bytes-reads.Learnt (λ _ lent answer ended.
      let nr = lent.0 in
      let floor = lent.1.0 in
      let n = lent.1.1.0 in
      answer ≡ flat_number (number_of (padding-are-bytes nr floor n) (round_count_refusal nr floor n)))

pub round-calls : RoundCalls
round-calls =
    record {
      keccak-rnd-row = record { wants-nothing = λ _ _. tt; tells = λ _ _ _ _ e. e };
      generate-keccak-rnd-trace = record { wants-nothing = λ _ _. tt; tells = λ _ _ _ _ e. e };
      keccak-rnd-rows = record { wants-nothing = λ _ _. tt; tells = λ _ _ _ _ e. e };
      keccak-rnd-height = record { wants-nothing = λ _ _. tt; tells = λ _ _ _ _ e. e };
      padding-are-bytes = record { wants-nothing = λ _ _. tt; tells = λ _ _ _ _ e. e };
    }
