-- What the calls on an operation file promise (src/tally_calls.rt), as Kept.antt says.
use mathlib.Core.Path.{◌≡◌}
use lib.ListN.{length}
use Rattle.answer.specs.Refusal.{answer_of}
use Rattle.op_file.specs.Reader.{feed_of, finish_of, file_start}
use Rattle.op_list.specs.Files.{read_refusal, write_refusal, read_after, write_after}
use Rattle.flat.specs.Flat.{flat_answer}
use Rattle.flat.specs.FlatReader.{cursor_of, flat_cursor, flat_tally}
use Rattle.keccak_tables.proofs.Kept.{Kept}
use Rattle.keccak_tables.proofs.tally_calls.keccak_tables_tally_start.Kinds as tally-start-kinds
use Rattle.keccak_tables.proofs.tally_calls.keccak_tables_tally_start.Reads as tally-start-reads
use Rattle.keccak_tables.proofs.tally_calls.keccak_tables_tally_feed.Kinds as tally-feed-kinds
use Rattle.keccak_tables.proofs.tally_calls.keccak_tables_tally_feed.Reads as tally-feed-reads
use Rattle.keccak_tables.proofs.tally_calls.keccak_tables_tally_finish.Kinds as tally-finish-kinds
use Rattle.keccak_tables.proofs.tally_calls.keccak_tables_tally_finish.Reads as tally-finish-reads
use Rattle.keccak_tables.proofs.tally_calls.keccak_tables_read_operations.Kinds as read-operations-kinds
use Rattle.keccak_tables.proofs.tally_calls.keccak_tables_read_operations.Reads as read-operations-reads
use Rattle.keccak_tables.proofs.tally_calls.keccak_tables_write_operations.Kinds as write-operations-kinds
use Rattle.keccak_tables.proofs.tally_calls.keccak_tables_write_operations.Reads as write-operations-reads

pub record TallyCalls : Type 0 where
  -- tally_start() → FlatCursor
  pub tally-start : Kept _ tally-start-kinds.ps tally-start-kinds.r tally-start-reads.Asked tally-start-reads.Learnt (λ _ lent answer ended.
      answer ≡ flat_cursor file_start)
  -- tally_feed(cursor, bytes) → FlatCursor
  pub tally-feed : Kept _ tally-feed-kinds.ps tally-feed-kinds.r tally-feed-reads.Asked tally-feed-reads.Learnt (λ _ lent answer ended.
      let cursor = lent.0 in
      let bytes = lent.1.0.now in
      answer ≡ flat_cursor (feed_of (cursor_of cursor) bytes))
  -- tally_finish(floor, shipped, cursor) → FlatTally
  pub tally-finish : Kept _ tally-finish-kinds.ps tally-finish-kinds.r tally-finish-reads.Asked tally-finish-reads.Learnt (λ _ lent answer ended.
      let floor = lent.0 in
      let shipped = lent.1.0 in
      let cursor = lent.1.1.0 in
      answer ≡ flat_tally (finish_of floor shipped (cursor_of cursor)))
  -- read_operations(file, ops) → FlatAnswer
  pub read-operations : Kept _ read-operations-kinds.ps read-operations-kinds.r read-operations-reads.Asked read-operations-reads.Learnt (λ _ lent answer ended.
      let file = lent.0.now in
      let ops = lent.1.0.now in
      let ops' = ended.1.0.now in
      (answer ≡ flat_answer (answer_of (read_refusal file (length ops))))
      × (ops' ≡ read_after file ops))
  -- write_operations(ops, file) → FlatAnswer
  pub write-operations : Kept _ write-operations-kinds.ps write-operations-kinds.r write-operations-reads.Asked write-operations-reads.Learnt (λ _ lent answer ended.
      let ops = lent.0.now in
      let file = lent.1.0.now in
      let file' = ended.1.0.now in
      (answer ≡ flat_answer (answer_of (write_refusal (length file) ops)))
      × (file' ≡ write_after ops file))

pub tally-calls : TallyCalls
tally-calls =
    record {
      tally-start = record { wants-nothing = λ _ _. tt; tells = λ _ _ _ _ e. e };
      tally-feed = record { wants-nothing = λ _ _. tt; tells = λ _ _ _ _ e. e };
      tally-finish = record { wants-nothing = λ _ _. tt; tells = λ _ _ _ _ e. e };
      read-operations = record { wants-nothing = λ _ _. tt; tells = λ _ _ _ _ e. e };
      write-operations = record { wants-nothing = λ _ _. tt; tells = λ _ _ _ _ e. e };
    }
