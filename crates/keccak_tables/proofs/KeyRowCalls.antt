-- What the calls of the IS_WH table promise (src/key_rows.rt), as Kept.antt says.
use mathlib.Core.Path.{◌≡◌}
use lib.ListN.{length}
use Rattle.answer.specs.Refusal.{answer_of, number_of}
use Rattle.keccak.specs.Height.{height, MIN-ROWS}
use Rattle.is_wh_rows.specs.Calls.{dedup_answer, loads_after, rows_after}
use Rattle.is_wh_trace.specs.Trace.{height_refusal, is_wh_trace_refusal, is_wh_trace_after}
use Rattle.is_wh_counts.specs.Counts.{collect_refusal, collect_after}
use Rattle.flat.specs.Flat.{flat_answer, flat_number}
use Rattle.keccak_tables.proofs.Kept.{Kept}
use Rattle.keccak_tables.proofs.key_rows.keccak_tables_dedup_is_wh_rows.Kinds as dedup-is-wh-rows-kinds
use Rattle.keccak_tables.proofs.key_rows.keccak_tables_dedup_is_wh_rows.Reads as dedup-is-wh-rows-reads
use Rattle.keccak_tables.proofs.key_rows.keccak_tables_is_wh_height.Kinds as is-wh-height-kinds
use Rattle.keccak_tables.proofs.key_rows.keccak_tables_is_wh_height.Reads as is-wh-height-reads
use Rattle.keccak_tables.proofs.key_rows.keccak_tables_generate_is_wh_trace.Kinds as generate-is-wh-trace-kinds
use Rattle.keccak_tables.proofs.key_rows.keccak_tables_generate_is_wh_trace.Reads as generate-is-wh-trace-reads
use Rattle.keccak_tables.proofs.key_rows.keccak_tables_collect_bitwise_from_is_wh.Kinds as collect-bitwise-from-is-wh-kinds
use Rattle.keccak_tables.proofs.key_rows.keccak_tables_collect_bitwise_from_is_wh.Reads as collect-bitwise-from-is-wh-reads

pub record KeyRowCalls : Type 0 where
  -- dedup_is_wh_rows(keys, codes, spare, rows) → FlatNumber
  pub dedup-is-wh-rows : Kept _ dedup-is-wh-rows-kinds.ps dedup-is-wh-rows-kinds.r dedup-is-wh-rows-reads.Asked dedup-is-wh-rows-reads.Learnt (λ _ lent answer ended.
      let keys = lent.0.now in
      let codes = lent.1.0.now in
      let spare = lent.1.1.0.now in
      let rows = lent.1.1.1.0.now in
      let codes' = ended.1.0.now in
      let spare' = ended.1.1.0.now in
      let rows' = ended.1.1.1.0.now in
      (answer ≡ flat_number (dedup_answer (length codes) (length spare) (length rows) keys))
      × ((codes' ≡ loads_after (length codes) (length spare) (length rows) keys codes)
      × ((spare' ≡ loads_after (length codes) (length spare) (length rows) keys spare)
      × (rows' ≡ rows_after (length codes) (length spare) keys rows))))
  -- is_wh_height(n) → FlatNumber
  pub is-wh-height : Kept _ is-wh-height-kinds.ps is-wh-height-kinds.r is-wh-height-reads.Asked is-wh-height-reads.Learnt (λ _ lent answer ended.
      let n = lent.0 in
      answer ≡ flat_number (number_of (height MIN-ROWS n) (height_refusal n)))
  -- generate_is_wh_trace(rows, table) → FlatAnswer
  pub generate-is-wh-trace : Kept _ generate-is-wh-trace-kinds.ps generate-is-wh-trace-kinds.r generate-is-wh-trace-reads.Asked generate-is-wh-trace-reads.Learnt (λ _ lent answer ended.
      let rows = lent.0.now in
      let table = lent.1.0.now in
      let table' = ended.1.0.now in
      (answer ≡ flat_answer (answer_of (is_wh_trace_refusal (length table) rows)))
      × (table' ≡ is_wh_trace_after rows table))
  -- collect_bitwise_from_is_wh(rows, counters) → FlatAnswer
  pub collect-bitwise-from-is-wh : Kept _ collect-bitwise-from-is-wh-kinds.ps collect-bitwise-from-is-wh-kinds.r collect-bitwise-from-is-wh-reads.Asked collect-bitwise-from-is-wh-reads.Learnt (λ _ lent answer ended.
      let rows = lent.0.now in
      let counters = lent.1.0.now in
      let counters' = ended.1.0.now in
      (answer ≡ flat_answer (answer_of (collect_refusal rows counters)))
      × (counters' ≡ collect_after rows counters))

pub key-row-calls : KeyRowCalls
key-row-calls =
    record {
      dedup-is-wh-rows = record { wants-nothing = λ _ _. tt; tells = λ _ _ _ _ e. e };
      is-wh-height = record { wants-nothing = λ _ _. tt; tells = λ _ _ _ _ e. e };
      generate-is-wh-trace = record { wants-nothing = λ _ _. tt; tells = λ _ _ _ _ e. e };
      collect-bitwise-from-is-wh = record { wants-nothing = λ _ _. tt; tells = λ _ _ _ _ e. e };
    }
