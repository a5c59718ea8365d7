-- What the calls of the core table promise (src/core_calls.rt), as Kept.antt says.
use mathlib.Core.Path.{◌≡◌}
use lib.ListN.{length}
use Rattle.answer.specs.Refusal.{answer_of, number_of}
use Rattle.keccak.specs.Height.{height}
use Rattle.keccak.specs.Refusals.{core_row_refusal, core_trace_refusal, core_rows_refusal, keys_refusal, core_count_refusal}
use Rattle.keccak.specs.Calls.{core_row_after, core_trace_after, core_rows_after, keys_after}
use Rattle.flat.specs.Flat.{flat_answer, flat_number}
use Rattle.keccak_tables.proofs.Kept.{Kept}
use Rattle.keccak_tables.proofs.core_calls.keccak_tables_keccak_row.Kinds as keccak-row-kinds
use Rattle.keccak_tables.proofs.core_calls.keccak_tables_keccak_row.Reads as keccak-row-reads
use Rattle.keccak_tables.proofs.core_calls.keccak_tables_generate_keccak_trace.Kinds as generate-keccak-trace-kinds
use Rattle.keccak_tables.proofs.core_calls.keccak_tables_generate_keccak_trace.Reads as generate-keccak-trace-reads
use Rattle.keccak_tables.proofs.core_calls.keccak_tables_keccak_rows.Kinds as keccak-rows-kinds
use Rattle.keccak_tables.proofs.core_calls.keccak_tables_keccak_rows.Reads as keccak-rows-reads
use Rattle.keccak_tables.proofs.core_calls.keccak_tables_is_wh_keys.Kinds as is-wh-keys-kinds
use Rattle.keccak_tables.proofs.core_calls.keccak_tables_is_wh_keys.Reads as is-wh-keys-reads
use Rattle.keccak_tables.proofs.core_calls.keccak_tables_keccak_height.Kinds as keccak-height-kinds
use Rattle.keccak_tables.proofs.core_calls.keccak_tables_keccak_height.Reads as keccak-height-reads

pub record CoreCalls : Type 0 where
  -- keccak_row(ops, index, row) → FlatAnswer
  pub keccak-row : Kept _ keccak-row-kinds.ps keccak-row-kinds.r keccak-row-reads.Asked keccak-row-reads.Learnt (λ _ lent answer ended.
      let ops = lent.0.now in
      let index = lent.1.0 in
      let row = lent.1.1.0.now in
      let row' = ended.1.1.0.now in
      (answer ≡ flat_answer (answer_of (core_row_refusal (length row) ops index)))
      × (row' ≡ core_row_after ops index row))
  -- generate_keccak_trace(floor, ops, table) → FlatAnswer
  pub generate-keccak-trace : Kept _ generate-keccak-trace-kinds.ps generate-keccak-trace-kinds.r generate-keccak-trace-reads.Asked generate-keccak-trace-reads.Learnt (λ _ lent answer ended.
      let floor = lent.0 in
      let ops = lent.1.0.now in
      let table = lent.1.1.0.now in
      let table' = ended.1.1.0.now in
      (answer ≡ flat_answer (answer_of (core_trace_refusal floor (length table) ops)))
      × (table' ≡ core_trace_after floor ops table))
  -- keccak_rows(ops, table) → FlatAnswer
  pub keccak-rows : Kept _ keccak-rows-kinds.ps keccak-rows-kinds.r keccak-rows-reads.Asked keccak-rows-reads.Learnt (λ _ lent answer ended.
      let ops = lent.0.now in
      let table = lent.1.0.now in
      let table' = ended.1.0.now in
      (answer ≡ flat_answer (answer_of (core_rows_refusal (length table) ops)))
      × (table' ≡ core_rows_after ops table))
  -- is_wh_keys(ops, out) → FlatAnswer
  pub is-wh-keys : Kept _ is-wh-keys-kinds.ps is-wh-keys-kinds.r is-wh-keys-reads.Asked is-wh-keys-reads.Learnt (λ _ lent answer ended.
      let ops = lent.0.now in
      let out = lent.1.0.now in
      let out' = ended.1.0.now in
      (answer ≡ flat_answer (answer_of (keys_refusal (length out) ops)))
      × (out' ≡ keys_after ops out))
  -- keccak_height(floor, n) → FlatNumber
  pub keccak-height : Kept _ keccak-height-kinds.ps keccak-height-kinds.r keccak-height-reads.Asked keccak-height-reads.Learnt (λ _ lent answer ended.
      let floor = lent.0 in
      let n = lent.1.0 in
      answer ≡ flat_number (number_of (height floor n) (core_count_refusal floor n)))

pub core-calls : CoreCalls
core-calls =
    record {
      keccak-row = record { wants-nothing = λ _ _. tt; tells = λ _ _ _ _ e. e };
      generate-keccak-trace = record { wants-nothing = λ _ _. tt; tells = λ _ _ _ _ e. e };
      keccak-rows = record { wants-nothing = λ _ _. tt; tells = λ _ _ _ _ e. e };
      is-wh-keys = record { wants-nothing = λ _ _. tt; tells = λ _ _ _ _ e. e };
      keccak-height = record { wants-nothing = λ _ _. tt; tells = λ _ _ _ _ e. e };
    }
