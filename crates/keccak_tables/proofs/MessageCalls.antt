-- What the calls on a message and its operations promise (src/message_calls.rt), as Kept.antt says.
use mathlib.Core.Path.{◌≡◌}
use lib.ListN.{length}
use Rattle.sha3.specs.Sha3.{blocks}
use Rattle.answer.specs.Refusal.{number_of}
use Rattle.message.specs.Message.{message_refusal, message_after, judged_refusal, is_message, judged_of}
use Rattle.flat.specs.Flat.{flat_number}
use Rattle.flat.specs.FlatJudged.{flat_reply}
use Rattle.keccak_tables.proofs.Kept.{Kept}
use Rattle.keccak_tables.proofs.message_calls.keccak_tables_message_operations.Kinds as message-operations-kinds
use Rattle.keccak_tables.proofs.message_calls.keccak_tables_message_operations.Reads as message-operations-reads
use Rattle.keccak_tables.proofs.message_calls.keccak_tables_judge_message.Kinds as judge-message-kinds
use Rattle.keccak_tables.proofs.message_calls.keccak_tables_judge_message.Reads as judge-message-reads

pub record MessageCalls : Type 0 where
  -- message_operations(message, address, timestamp, ops) → FlatNumber
  pub message-operations : Kept _ message-operations-kinds.ps message-operations-kinds.r message-operations-reads.Asked message-operations-reads.Learnt (λ _ lent answer ended.
      let message = lent.0.now in
      let address = lent.1.0 in
      let timestamp = lent.1.1.0 in
      let ops = lent.1.1.1.0.now in
      let ops' = ended.1.1.1.0.now in
      (answer ≡ flat_number (number_of (blocks message) (message_refusal (length ops) message address timestamp)))
      × (ops' ≡ message_after message address timestamp ops))
  -- judge_message(message, ops) → FlatReply
  pub judge-message : Kept _ judge-message-kinds.ps judge-message-kinds.r judge-message-reads.Asked judge-message-reads.Learnt (λ _ lent answer ended.
      let message = lent.0.now in
      let ops = lent.1.0.now in
      answer ≡ flat_reply (judged_of (judged_refusal message ops) (is_message message ops)))

pub message-calls : MessageCalls
message-calls =
    record {
      message-operations = record { wants-nothing = λ _ _. tt; tells = λ _ _ _ _ e. e };
      judge-message = record { wants-nothing = λ _ _. tt; tells = λ _ _ _ _ e. e };
    }
