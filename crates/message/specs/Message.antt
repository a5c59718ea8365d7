-- "Stock pages are hashed with SHA3-256.": the operations that hash a message, and a list judged against a message.
--     message_op, message_list     operation i of a message, and the list of them
--     Chained, last_digest        a list whose inputs are chained by a message's blocks, and the digest that a list ends with
--     message_refusal             the checks of `message_operations`
--     judged_refusal              the checks of `judge_message`
--     is_message                  whether a list is a message's
use Rattle.std.specs.Prelude.{ℕ, suc, ◌+◌, ◌-◌, ◌*◌, ◌%◌, ◌^◌, ◌≤◌, ◌<◌, ◌≡◌, Bool, not, ◌&&◌, List, eqb, leb, ltb, length, replicate}
use Rattle.std.proofs.Math.Option.{Option, none, some}
use Rattle.lists.specs.Tab.{tab, table_of}
use Rattle.lists.specs.Select.{words_test}
use Rattle.bits.specs.Bits.{lane_byte}
use Rattle.fips202.specs.Lanes.{keccak_pl}
use Rattle.sha3.specs.Sha3.{blocks, added, absorbed}
use Rattle.answer.specs.Refusal.{refuse_if, accepted, too_short, overwrite, afterwards}
use Rattle.answer.specs.declared.Refusal.{Refusal}
use Rattle.answer.specs.declared.Refusal.TheVariants.{HighAddress, Unaligned, LongMessage, LateTimestamp}
use Rattle.keccak.specs.Row.{OP-WORDS, LAST-ADDRESS, op_at, list_words}
use Rattle.keccak.specs.Refusals.{op_count, address_at, too_many, not_whole, bad_operation}
use Rattle.keccak.specs.declared.KeccakOperation.{KeccakOperation}
use Rattle.std.specs.Prelude.{Result, Ok, Err}

-- "a message of at most 65,536 bytes"
abbrev pub MAX-MESSAGE : ℕ
MAX-MESSAGE = 65536

-- "write the operations in order, all at that address": operation i, where s is the state before it. "each output is
-- Keccak-f[1600] of its input, each input is the previous output with the next padded 136-byte block added by exclusive
-- or, ..; timestamps rise by 1 and the segment is 0"
unfoldable pub operation_from : List ℕ → ℕ → ℕ → ℕ → List ℕ → KeccakOperation
operation_from m address timestamp i s =
    record {
      timestamp = timestamp + i;
      state_addr = address;
      input = added m i s;
      output = keccak_pl 24 (added m i s);
      segment = 0;
    }

-- the state before it: what the blocks before it left, "the first starting from zero". That it is the previous output:
-- proofs/Digest.antt, `list-chained`
abbrev pub message_op : List ℕ → ℕ → ℕ → ℕ → KeccakOperation
message_op m address timestamp i = operation_from m address timestamp i (absorbed m i)

-- "and answer their number": as many as the padded message has blocks, length div 136 + 1
unfoldable pub message_list : List ℕ → ℕ → ℕ → List ℕ
message_list m address timestamp = table_of (blocks m) OP-WORDS (λ i. list_words (message_op m address timestamp i))

-- a list whose inputs are chained by the message's blocks: each is the previous operation's output with the next block added,
-- the first from zero. What the outputs are is left open
pub record Chained (m ops : List ℕ) : Type 0 where
  pub count : op_count ops ≡ blocks m
  pub first : (op_at ops 0).input ≡ added m 0 (replicate 25 0)
  pub next : (i : ℕ) → suc i < blocks m → (op_at ops (suc i)).input ≡ added m (suc i) (op_at ops i).output

-- "The last output's first 32 bytes are the digest": the first 32 bytes of the last operation's output
abbrev pub last_digest : List ℕ → List ℕ
last_digest ops = tab 32 (lane_byte (op_at ops (op_count ops - 1)).output)

-- 12: "message too long, detail its length"
abbrev pub too_long : List ℕ → Option Refusal → Option Refusal
too_long m later = refuse_if (ltb MAX-MESSAGE (length m)) (LongMessage (length m)) later

-- "timestamps that pass 2^64 − 1": the last of them is the first + blocks - 1
unfoldable pub is_late : List ℕ → ℕ → Bool
is_late m timestamp = leb (2 ^ 64) (timestamp + (blocks m - 1))

-- 13: "detail the first given"
abbrev pub too_late : List ℕ → ℕ → Option Refusal → Option Refusal
too_late m timestamp later = refuse_if (is_late m timestamp) (LateTimestamp timestamp) later

-- "both after 1 and before 2, in this order"
abbrev pub long_or_late : List ℕ → ℕ → Option Refusal → Option Refusal
long_or_late m timestamp later = too_long m (too_late m timestamp later)

-- "the address by 4 or 7"
abbrev pub bad_place : ℕ → Option Refusal → Option Refusal
bad_place address later =
    refuse_if (ltb LAST-ADDRESS address) (HighAddress address)
    (refuse_if (not (eqb (address % 8) 0)) (Unaligned address) later)

-- `message_operations`, with a slice of `room` words: 12 and 13, then 3, 4 and 7
unfoldable pub message_refusal : ℕ → List ℕ → ℕ → ℕ → Option Refusal
message_refusal room m address timestamp =
    long_or_late m timestamp
    (too_short room (blocks m * OP-WORDS)
    (bad_place address
    accepted))

-- none of the five conditions holds (proofs/Refusals.antt: `message-accepted`, the checks pass exactly then; and each refusal
-- with its detail)
pub record Hashable (room : ℕ) (m : List ℕ) (address timestamp : ℕ) : Type 0 where
  pub few : length m ≤ MAX-MESSAGE
  pub stamps : timestamp + (blocks m - 1) < 2 ^ 64
  pub long : blocks m * OP-WORDS ≤ room
  pub low : address ≤ LAST-ADDRESS
  pub aligned : address % 8 ≡ 0

-- what it leaves in the list that it is lent
abbrev pub message_after : List ℕ → ℕ → ℕ → List ℕ → List ℕ
message_after m address timestamp ops =
    afterwards (message_refusal (length ops) m address timestamp) (overwrite (message_list m address timestamp) ops) ops

-- `judge_message`: 1, 12, 2, 4, 7 and 11; "the judge says no in the second case", so 13 is none of them
unfoldable pub judged_refusal : List ℕ → List ℕ → Option Refusal
judged_refusal m ops =
    too_many ops
    (too_long m
    (not_whole ops
    (bad_operation ops
    accepted)))

-- "yes exactly when it is that list for its own first address and timestamp; an empty list gets no"
pub record IsMessage (m ops : List ℕ) : Type 0 where
  pub list : ops ≡ message_list m (address_at ops 0) (op_at ops 0).timestamp
  pub stamps : (op_at ops 0).timestamp + (blocks m - 1) < 2 ^ 64

-- the same as a test (proofs/Judging.antt: `message-decides`)
unfoldable pub is_message : List ℕ → List ℕ → Bool
is_message m ops =
    not (is_late m (op_at ops 0).timestamp) && words_test ops (message_list m (address_at ops 0) (op_at ops 0).timestamp)

-- the answer of the judge, from what its checks found and the test
unfoldable pub judged_of : Option Refusal → Bool → Result Bool Refusal
judged_of none b = Ok b
judged_of (some r) b = Err r
