-- What the calls that give the values and the tuples of a core row or a round row promise (src/evaluators.rt), as Kept.antt says.
use mathlib.Core.Path.{◌≡◌}
use Rattle.tuple.specs.Call.{tuple_answer_of, tuple_after}
use Rattle.tuple.specs.Values.{values_answer, values_after}
use Rattle.keccak.specs.Columns as core
use Rattle.keccak.specs.Values.{core_value}
use Rattle.keccak.specs.Values as core-values
use Rattle.keccak.specs.TupleCalls.{core_tuple_answer, core_tuple_after}
use Rattle.keccak_rnd.specs.Columns as round
use Rattle.keccak_rnd.specs.Values.{round_value}
use Rattle.keccak_rnd.specs.Values as round-values
use Rattle.keccak_rnd.specs.Tuples.{round_tuple}
use Rattle.keccak_rnd.specs.Tuples as round-tuples
use Rattle.keccak_interactions.specs.Words as core-words
use Rattle.keccak_rnd_interactions.specs.Words as round-words
use Rattle.flat.specs.Flat.{flat_answer, flat_tuple}
use Rattle.keccak_tables.proofs.Kept.{Kept}
use Rattle.keccak_tables.proofs.evaluators.keccak_tables_keccak_values.Kinds as keccak-values-kinds
use Rattle.keccak_tables.proofs.evaluators.keccak_tables_keccak_values.Reads as keccak-values-reads
use Rattle.keccak_tables.proofs.evaluators.keccak_tables_keccak_rnd_values.Kinds as keccak-rnd-values-kinds
use Rattle.keccak_tables.proofs.evaluators.keccak_tables_keccak_rnd_values.Reads as keccak-rnd-values-reads
use Rattle.keccak_tables.proofs.evaluators.keccak_tables_keccak_bus_interaction.Kinds as keccak-bus-interaction-kinds
use Rattle.keccak_tables.proofs.evaluators.keccak_tables_keccak_bus_interaction.Reads as keccak-bus-interaction-reads
use Rattle.keccak_tables.proofs.evaluators.keccak_tables_keccak_rnd_bus_interaction.Kinds as keccak-rnd-bus-interaction-kinds
use Rattle.keccak_tables.proofs.evaluators.keccak_tables_keccak_rnd_bus_interaction.Reads as keccak-rnd-bus-interaction-reads
use Rattle.keccak_tables.proofs.evaluators.keccak_tables_keccak_bus_interactions.Kinds as keccak-bus-interactions-kinds
use Rattle.keccak_tables.proofs.evaluators.keccak_tables_keccak_bus_interactions.Reads as keccak-bus-interactions-reads
use Rattle.keccak_tables.proofs.evaluators.keccak_tables_keccak_rnd_bus_interactions.Kinds as keccak-rnd-bus-interactions-kinds
use Rattle.keccak_tables.proofs.evaluators.keccak_tables_keccak_rnd_bus_interactions.Reads as keccak-rnd-bus-interactions-reads

pub record EvaluatorCalls : Type 0 where
  -- keccak_values(row, out) → FlatAnswer
  pub keccak-values : Kept _ keccak-values-kinds.ps keccak-values-kinds.r keccak-values-reads.Asked keccak-values-reads.Learnt (λ _ lent answer ended.
      let row = lent.0.now in
      let out = lent.1.0.now in
      let out' = ended.1.0.now in
      (answer ≡ flat_answer (values_answer core.NUM-COLUMNS core-values.NUM-VALUES row out))
      × (out' ≡ values_after core.NUM-COLUMNS core-values.NUM-VALUES core_value row out))
  -- keccak_rnd_values(row, out) → FlatAnswer
  pub keccak-rnd-values : Kept _ keccak-rnd-values-kinds.ps keccak-rnd-values-kinds.r keccak-rnd-values-reads.Asked keccak-rnd-values-reads.Learnt (λ _ lent answer ended.
      let row = lent.0.now in
      let out = lent.1.0.now in
      let out' = ended.1.0.now in
      (answer ≡ flat_answer (values_answer round.NUM-COLUMNS round-values.NUM-VALUES row out))
      × (out' ≡ values_after round.NUM-COLUMNS round-values.NUM-VALUES round_value row out))
  -- keccak_bus_interaction(nr, row, index, syscall, out) → FlatTuple
  pub keccak-bus-interaction : Kept _ keccak-bus-interaction-kinds.ps keccak-bus-interaction-kinds.r keccak-bus-interaction-reads.Asked keccak-bus-interaction-reads.Learnt (λ _ lent answer ended.
      let nr = lent.0 in
      let row = lent.1.0.now in
      let index = lent.1.1.0 in
      let syscall = lent.1.1.1.0 in
      let out = lent.1.1.1.1.0.now in
      let out' = ended.1.1.1.1.0.now in
      (answer ≡ flat_tuple (core_tuple_answer nr syscall row index out))
      × (out' ≡ core_tuple_after nr syscall row index out))
  -- keccak_rnd_bus_interaction(row, index, out) → FlatTuple
  pub keccak-rnd-bus-interaction : Kept _ keccak-rnd-bus-interaction-kinds.ps keccak-rnd-bus-interaction-kinds.r keccak-rnd-bus-interaction-reads.Asked keccak-rnd-bus-interaction-reads.Learnt (λ _ lent answer ended.
      let row = lent.0.now in
      let index = lent.1.0 in
      let out = lent.1.1.0.now in
      let out' = ended.1.1.0.now in
      (answer ≡ flat_tuple (tuple_answer_of round.NUM-COLUMNS round-tuples.NUM-TUPLES round_tuple row index out))
      × (out' ≡ tuple_after round.NUM-COLUMNS round-tuples.NUM-TUPLES round_tuple row index out))
  -- keccak_bus_interactions(nr, row, syscall, out) → FlatAnswer
  pub keccak-bus-interactions : Kept _ keccak-bus-interactions-kinds.ps keccak-bus-interactions-kinds.r keccak-bus-interactions-reads.Asked keccak-bus-interactions-reads.Learnt (λ _ lent answer ended.
      let nr = lent.0 in
      let row = lent.1.0.now in
      let syscall = lent.1.1.0 in
      let out = lent.1.1.1.0.now in
      let out' = ended.1.1.1.0.now in
      (answer ≡ flat_answer (core-words.core_tuples_answer nr row out))
      × (out' ≡ core-words.core_tuples_after nr syscall row out))
  -- keccak_rnd_bus_interactions(row, out) → FlatAnswer
  pub keccak-rnd-bus-interactions : Kept _ keccak-rnd-bus-interactions-kinds.ps keccak-rnd-bus-interactions-kinds.r keccak-rnd-bus-interactions-reads.Asked keccak-rnd-bus-interactions-reads.Learnt (λ _ lent answer ended.
      let row = lent.0.now in
      let out = lent.1.0.now in
      let out' = ended.1.0.now in
      (answer ≡ flat_answer (values_answer round.NUM-COLUMNS round-words.NUM-WORDS row out))
      × (out' ≡ round-words.round_tuples_after row out))

pub evaluator-calls : EvaluatorCalls
evaluator-calls =
    record {
      keccak-values = record { wants-nothing = λ _ _. tt; tells = λ _ _ _ _ e. e };
      keccak-rnd-values = record { wants-nothing = λ _ _. tt; tells = λ _ _ _ _ e. e };
      keccak-bus-interaction = record { wants-nothing = λ _ _. tt; tells = λ _ _ _ _ e. e };
      keccak-rnd-bus-interaction = record { wants-nothing = λ _ _. tt; tells = λ _ _ _ _ e. e };
      keccak-bus-interactions = record { wants-nothing = λ _ _. tt; tells = λ _ _ _ _ e. e };
      keccak-rnd-bus-interactions = record { wants-nothing = λ _ _. tt; tells = λ _ _ _ _ e. e };
    }
