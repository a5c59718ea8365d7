-- What the calls of the looked-up tables, row by row, promise (src/lookups.rt), as Kept.antt says.
use mathlib.Core.Path.{◌≡◌}
use Rattle.answer.specs.Refusal.{answer_of, number_of}
use Rattle.tuple.specs.Call.{tuple_answer_of, tuple_after}
use Rattle.bitwise.specs.Columns as bitwise
use Rattle.bitwise.specs.Row.{row-index, index_refusal}
use Rattle.bitwise.specs.Row as bitwise-row
use Rattle.bitwise.specs.Counters.{bump_refusal, bump_after}
use Rattle.bitwise.specs.Tuples.{bitwise_tuple}
use Rattle.keccak_rc.specs.Columns as rc
use Rattle.keccak_rc.specs.Row as rc-row
use Rattle.keccak_rc.specs.Table.{rc_trace_refusal, update_refusal, rc_trace_after, update_after}
use Rattle.keccak_rc.specs.Tuples as rc-tuples
use Rattle.is_wh.specs.Columns as is-wh
use Rattle.is_wh.specs.Key.{of-dword}
use Rattle.is_wh.specs.Tuples.{is_wh_tuple}
use Rattle.is_wh.specs.Tuples as is-wh-tuples
use Rattle.flat.specs.Flat.{flat_answer, flat_number, flat_tuple, flat_key}
use Rattle.keccak_tables.proofs.Kept.{Kept}
use Rattle.keccak_tables.proofs.lookups.keccak_tables_generate_bitwise_row.Kinds as generate-bitwise-row-kinds
use Rattle.keccak_tables.proofs.lookups.keccak_tables_generate_bitwise_row.Reads as generate-bitwise-row-reads
use Rattle.keccak_tables.proofs.lookups.keccak_tables_bitwise_row_index.Kinds as bitwise-row-index-kinds
use Rattle.keccak_tables.proofs.lookups.keccak_tables_bitwise_row_index.Reads as bitwise-row-index-reads
use Rattle.keccak_tables.proofs.lookups.keccak_tables_bitwise_bump.Kinds as bitwise-bump-kinds
use Rattle.keccak_tables.proofs.lookups.keccak_tables_bitwise_bump.Reads as bitwise-bump-reads
use Rattle.keccak_tables.proofs.lookups.keccak_tables_bitwise_bus_interaction.Kinds as bitwise-bus-interaction-kinds
use Rattle.keccak_tables.proofs.lookups.keccak_tables_bitwise_bus_interaction.Reads as bitwise-bus-interaction-reads
use Rattle.keccak_tables.proofs.lookups.keccak_tables_keccak_rc_generate_row.Kinds as keccak-rc-generate-row-kinds
use Rattle.keccak_tables.proofs.lookups.keccak_tables_keccak_rc_generate_row.Reads as keccak-rc-generate-row-reads
use Rattle.keccak_tables.proofs.lookups.keccak_tables_generate_keccak_rc_trace.Kinds as generate-keccak-rc-trace-kinds
use Rattle.keccak_tables.proofs.lookups.keccak_tables_generate_keccak_rc_trace.Reads as generate-keccak-rc-trace-reads
use Rattle.keccak_tables.proofs.lookups.keccak_tables_keccak_rc_update_multiplicities.Kinds as keccak-rc-update-multiplicities-kinds
use Rattle.keccak_tables.proofs.lookups.keccak_tables_keccak_rc_update_multiplicities.Reads as keccak-rc-update-multiplicities-reads
use Rattle.keccak_tables.proofs.lookups.keccak_tables_keccak_rc_bus_interaction.Kinds as keccak-rc-bus-interaction-kinds
use Rattle.keccak_tables.proofs.lookups.keccak_tables_keccak_rc_bus_interaction.Reads as keccak-rc-bus-interaction-reads
use Rattle.keccak_tables.proofs.lookups.keccak_tables_is_wh_key.Kinds as is-wh-key-kinds
use Rattle.keccak_tables.proofs.lookups.keccak_tables_is_wh_key.Reads as is-wh-key-reads
use Rattle.keccak_tables.proofs.lookups.keccak_tables_is_wh_bus_interaction.Kinds as is-wh-bus-interaction-kinds
use Rattle.keccak_tables.proofs.lookups.keccak_tables_is_wh_bus_interaction.Reads as is-wh-bus-interaction-reads

pub record LookedUpCalls : Type 0 where
  -- generate_bitwise_row(index, row) → FlatAnswer
  pub generate-bitwise-row : Kept _ generate-bitwise-row-kinds.ps generate-bitwise-row-kinds.r generate-bitwise-row-reads.Asked generate-bitwise-row-reads.Learnt (λ _ lent answer ended.
      let index = lent.0 in
      let row = lent.1.0.now in
      let row' = ended.1.0.now in
      (answer ≡ flat_answer (answer_of (bitwise-row.bitwise_row_refusal index row)))
      × (row' ≡ bitwise-row.bitwise_row_after index row))
  -- bitwise_row_index(x, y, z) → FlatNumber
  pub bitwise-row-index : Kept _ bitwise-row-index-kinds.ps bitwise-row-index-kinds.r bitwise-row-index-reads.Asked bitwise-row-index-reads.Learnt (λ _ lent answer ended.
      let x = lent.0 in
      let y = lent.1.0 in
      let z = lent.1.1.0 in
      answer ≡ flat_number (number_of (row-index x y z) (index_refusal z)))
  -- bitwise_bump(counters, kind, x, y, z) → FlatAnswer
  pub bitwise-bump : Kept _ bitwise-bump-kinds.ps bitwise-bump-kinds.r bitwise-bump-reads.Asked bitwise-bump-reads.Learnt (λ _ lent answer ended.
      let counters = lent.0.now in
      let kind = lent.1.0 in
      let x = lent.1.1.0 in
      let y = lent.1.1.1.0 in
      let z = lent.1.1.1.1.0 in
      let counters' = ended.0.now in
      (answer ≡ flat_answer (answer_of (bump_refusal counters kind x y z)))
      × (counters' ≡ bump_after counters kind x y z))
  -- bitwise_bus_interaction(row, index, out) → FlatTuple
  pub bitwise-bus-interaction : Kept _ bitwise-bus-interaction-kinds.ps bitwise-bus-interaction-kinds.r bitwise-bus-interaction-reads.Asked bitwise-bus-interaction-reads.Learnt (λ _ lent answer ended.
      let row = lent.0.now in
      let index = lent.1.0 in
      let out = lent.1.1.0.now in
      let out' = ended.1.1.0.now in
      (answer ≡ flat_tuple (tuple_answer_of bitwise.NUM-COLUMNS bitwise.NUM-LOOKUP-TYPES bitwise_tuple row index out))
      × (out' ≡ tuple_after bitwise.NUM-COLUMNS bitwise.NUM-LOOKUP-TYPES bitwise_tuple row index out))
  -- keccak_rc_generate_row(round, out) → FlatAnswer
  pub keccak-rc-generate-row : Kept _ keccak-rc-generate-row-kinds.ps keccak-rc-generate-row-kinds.r keccak-rc-generate-row-reads.Asked keccak-rc-generate-row-reads.Learnt (λ _ lent answer ended.
      let round = lent.0 in
      let out = lent.1.0.now in
      let out' = ended.1.0.now in
      (answer ≡ flat_answer (answer_of (rc-row.rc_row_refusal round out)))
      × (out' ≡ rc-row.rc_row_after round out))
  -- generate_keccak_rc_trace(table) → FlatAnswer
  pub generate-keccak-rc-trace : Kept _ generate-keccak-rc-trace-kinds.ps generate-keccak-rc-trace-kinds.r generate-keccak-rc-trace-reads.Asked generate-keccak-rc-trace-reads.Learnt (λ _ lent answer ended.
      let table = lent.0.now in
      let table' = ended.0.now in
      (answer ≡ flat_answer (answer_of (rc_trace_refusal table)))
      × (table' ≡ rc_trace_after table))
  -- keccak_rc_update_multiplicities(nr, table, n) → FlatAnswer
  pub keccak-rc-update-multiplicities : Kept _ keccak-rc-update-multiplicities-kinds.ps keccak-rc-update-multiplicities-kinds.r keccak-rc-update-multiplicities-reads.Asked keccak-rc-update-multiplicities-reads.Learnt (λ _ lent answer ended.
      let nr = lent.0 in
      let table = lent.1.0.now in
      let n = lent.1.1.0 in
      let table' = ended.1.0.now in
      (answer ≡ flat_answer (answer_of (update_refusal nr table n)))
      × (table' ≡ update_after nr table n))
  -- keccak_rc_bus_interaction(row, index, out) → FlatTuple
  pub keccak-rc-bus-interaction : Kept _ keccak-rc-bus-interaction-kinds.ps keccak-rc-bus-interaction-kinds.r keccak-rc-bus-interaction-reads.Asked keccak-rc-bus-interaction-reads.Learnt (λ _ lent answer ended.
      let row = lent.0.now in
      let index = lent.1.0 in
      let out = lent.1.1.0.now in
      let out' = ended.1.1.0.now in
      (answer ≡ flat_tuple (tuple_answer_of rc.NUM-COLUMNS rc-tuples.NUM-TUPLES rc-tuples.rc_tuple row index out))
      × (out' ≡ tuple_after rc.NUM-COLUMNS rc-tuples.NUM-TUPLES rc-tuples.rc_tuple row index out))
  -- is_wh_key(value) → FlatKey
  pub is-wh-key : Kept _ is-wh-key-kinds.ps is-wh-key-kinds.r is-wh-key-reads.Asked is-wh-key-reads.Learnt (λ _ lent answer ended.
      let value = lent.0 in
      answer ≡ flat_key (of-dword value))
  -- is_wh_bus_interaction(row, index, out) → FlatTuple
  pub is-wh-bus-interaction : Kept _ is-wh-bus-interaction-kinds.ps is-wh-bus-interaction-kinds.r is-wh-bus-interaction-reads.Asked is-wh-bus-interaction-reads.Learnt (λ _ lent answer ended.
      let row = lent.0.now in
      let index = lent.1.0 in
      let out = lent.1.1.0.now in
      let out' = ended.1.1.0.now in
      (answer ≡ flat_tuple (tuple_answer_of is-wh.NUM-COLUMNS is-wh-tuples.NUM-TUPLES is_wh_tuple row index out))
      × (out' ≡ tuple_after is-wh.NUM-COLUMNS is-wh-tuples.NUM-TUPLES is_wh_tuple row index out))

pub looked-up-calls : LookedUpCalls
looked-up-calls =
    record {
      generate-bitwise-row = record { wants-nothing = λ _ _. tt; tells = λ _ _ _ _ e. e };
      bitwise-row-index = record { wants-nothing = λ _ _. tt; tells = λ _ _ _ _ e. e };
      bitwise-bump = record { wants-nothing = λ _ _. tt; tells = λ _ _ _ _ e. e };
      bitwise-bus-interaction = record { wants-nothing = λ _ _. tt; tells = λ _ _ _ _ e. e };
      keccak-rc-generate-row = record { wants-nothing = λ _ _. tt; tells = λ _ _ _ _ e. e };
      generate-keccak-rc-trace = record { wants-nothing = λ _ _. tt; tells = λ _ _ _ _ e. e };
      keccak-rc-update-multiplicities = record { wants-nothing = λ _ _. tt; tells = λ _ _ _ _ e. e };
      keccak-rc-bus-interaction = record { wants-nothing = λ _ _. tt; tells = λ _ _ _ _ e. e };
      is-wh-key = record { wants-nothing = λ _ _. tt; tells = λ _ _ _ _ e. e };
      is-wh-bus-interaction = record { wants-nothing = λ _ _. tt; tells = λ _ _ _ _ e. e };
    }
