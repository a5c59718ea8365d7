-- What the calls of the whole bitwise table and its counters promise (src/counters.rt), as Kept.antt says.
use mathlib.Core.Path.{◌≡◌}
use Rattle.answer.specs.Refusal.{answer_of}
use Rattle.bitwise.specs.Counters.{bump_refusal, bump_n_after, merge_refusal, merge_after}
use Rattle.bitwise.specs.Lookups.{add_ops_refusal, add_ops_after, update_refusal, update_after}
use Rattle.bitwise.specs.Table.{trace_refusal, trace_after, fill_refusal, fill_after}
use Rattle.flat.specs.Flat.{flat_answer}
use Rattle.keccak_tables.proofs.Kept.{Kept}
use Rattle.keccak_tables.proofs.counters.keccak_tables_generate_bitwise_trace.Kinds as generate-bitwise-trace-kinds
use Rattle.keccak_tables.proofs.counters.keccak_tables_generate_bitwise_trace.Reads as generate-bitwise-trace-reads
use Rattle.keccak_tables.proofs.counters.keccak_tables_fill_multiplicities.Kinds as fill-multiplicities-kinds
use Rattle.keccak_tables.proofs.counters.keccak_tables_fill_multiplicities.Reads as fill-multiplicities-reads
use Rattle.keccak_tables.proofs.counters.keccak_tables_bump_n.Kinds as bump-n-kinds
use Rattle.keccak_tables.proofs.counters.keccak_tables_bump_n.Reads as bump-n-reads
use Rattle.keccak_tables.proofs.counters.keccak_tables_merge.Kinds as merge-kinds
use Rattle.keccak_tables.proofs.counters.keccak_tables_merge.Reads as merge-reads
use Rattle.keccak_tables.proofs.counters.keccak_tables_add_ops.Kinds as add-ops-kinds
use Rattle.keccak_tables.proofs.counters.keccak_tables_add_ops.Reads as add-ops-reads
use Rattle.keccak_tables.proofs.counters.keccak_tables_bitwise_update_multiplicities.Kinds as bitwise-update-multiplicities-kinds
use Rattle.keccak_tables.proofs.counters.keccak_tables_bitwise_update_multiplicities.Reads as bitwise-update-multiplicities-reads

pub record CounterCalls : Type 0 where
  -- generate_bitwise_trace(table) → FlatAnswer
  pub generate-bitwise-trace : Kept _ generate-bitwise-trace-kinds.ps generate-bitwise-trace-kinds.r generate-bitwise-trace-reads.Asked generate-bitwise-trace-reads.Learnt (λ _ lent answer ended.
      let table = lent.0.now in
      let table' = ended.0.now in
      (answer ≡ flat_answer (answer_of (trace_refusal table)))
      × (table' ≡ trace_after table))
  -- fill_multiplicities(counters, table) → FlatAnswer
  pub fill-multiplicities : Kept _ fill-multiplicities-kinds.ps fill-multiplicities-kinds.r fill-multiplicities-reads.Asked fill-multiplicities-reads.Learnt (λ _ lent answer ended.
      let counters = lent.0.now in
      let table = lent.1.0.now in
      let table' = ended.1.0.now in
      (answer ≡ flat_answer (answer_of (fill_refusal counters table)))
      × (table' ≡ fill_after counters table))
  -- bump_n(counters, kind, x, y, z, n) → FlatAnswer
  pub bump-n : Kept _ bump-n-kinds.ps bump-n-kinds.r bump-n-reads.Asked bump-n-reads.Learnt (λ _ lent answer ended.
      let counters = lent.0.now in
      let kind = lent.1.0 in
      let x = lent.1.1.0 in
      let y = lent.1.1.1.0 in
      let z = lent.1.1.1.1.0 in
      let n = lent.1.1.1.1.1.0 in
      let counters' = ended.0.now in
      (answer ≡ flat_answer (answer_of (bump_refusal counters kind x y z)))
      × (counters' ≡ bump_n_after counters kind x y z n))
  -- merge(counters, other) → FlatAnswer
  pub merge : Kept _ merge-kinds.ps merge-kinds.r merge-reads.Asked merge-reads.Learnt (λ _ lent answer ended.
      let counters = lent.0.now in
      let other = lent.1.0.now in
      let counters' = ended.0.now in
      (answer ≡ flat_answer (answer_of (merge_refusal counters other)))
      × (counters' ≡ merge_after counters other))
  -- add_ops(counters, ops) → FlatAnswer
  pub add-ops : Kept _ add-ops-kinds.ps add-ops-kinds.r add-ops-reads.Asked add-ops-reads.Learnt (λ _ lent answer ended.
      let counters = lent.0.now in
      let ops = lent.1.0.now in
      let counters' = ended.0.now in
      (answer ≡ flat_answer (answer_of (add_ops_refusal counters ops)))
      × (counters' ≡ add_ops_after counters ops))
  -- bitwise_update_multiplicities(table, ops) → FlatAnswer
  pub bitwise-update-multiplicities : Kept _ bitwise-update-multiplicities-kinds.ps bitwise-update-multiplicities-kinds.r bitwise-update-multiplicities-reads.Asked bitwise-update-multiplicities-reads.Learnt (λ _ lent answer ended.
      let table = lent.0.now in
      let ops = lent.1.0.now in
      let table' = ended.0.now in
      (answer ≡ flat_answer (answer_of (update_refusal table ops)))
      × (table' ≡ update_after table ops))

pub counter-calls : CounterCalls
counter-calls =
    record {
      generate-bitwise-trace = record { wants-nothing = λ _ _. tt; tells = λ _ _ _ _ e. e };
      fill-multiplicities = record { wants-nothing = λ _ _. tt; tells = λ _ _ _ _ e. e };
      bump-n = record { wants-nothing = λ _ _. tt; tells = λ _ _ _ _ e. e };
      merge = record { wants-nothing = λ _ _. tt; tells = λ _ _ _ _ e. e };
      add-ops = record { wants-nothing = λ _ _. tt; tells = λ _ _ _ _ e. e };
      bitwise-update-multiplicities = record { wants-nothing = λ _ _. tt; tells = λ _ _ _ _ e. e };
    }
