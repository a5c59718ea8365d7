-- The refusals of a call that takes a list of operations: one definition for every such call.
--     too_many, not_whole, too_high, unaligned, bad_segment   one check each, followed by the checks after it
--     bad_address                             the two of the addresses
--     bad_operation                           these and that of the segment numbers, as every such call makes them
--     operations_refusal                      the checks of a call that takes a list and a slice to write to
--     core_trace_refusal, core_rows_refusal, core_count_refusal, keys_refusal, core_row_refusal   the checks of each call of the core
--                                            table
-- A call that takes an index too puts its check between `too_many` and `not_whole`: "in number order, then argument
-- order".
use Rattle.std.specs.Prelude.{ℕ, ◌*◌, ◌/◌, ◌%◌, ◌≤◌, ◌<◌, ◌≡◌, Bool, not, List, eqb, ltb, length}
use Rattle.std.proofs.Math.Option.{Option}
use Rattle.lists.specs.First.{first_at}
use Rattle.answer.specs.Limits.{MAX-OPS}
use Rattle.answer.specs.Refusal.{refuse_if, refuse_at, accepted, past_end, over_limit, too_short, not_floor, count_refusal}
use Rattle.answer.specs.declared.Refusal.{Refusal}
use Rattle.answer.specs.declared.Refusal.TheVariants.{NotWhole, HighAddress, Unaligned, Segment}
use Rattle.keccak.specs.Columns.{NUM-COLUMNS}
use Rattle.keccak.specs.Height.{height}
use Rattle.keccak.specs.Row.{OP-WORDS, op_at, LAST-ADDRESS, LAST-SEGMENT, KEY-WORDS}

-- "a list's n is its length div" the words of an operation: "n is then the length div 53"
abbrev pub op_count : List ℕ → ℕ
op_count ops = length ops / OP-WORDS

-- the address of operation i; whether it is so high that the state's last lane would start past 2^64 - 1; and whether
-- it is no multiple of 8, so that the alignment lookup of its row has no match
abbrev pub address_at : List ℕ → ℕ → ℕ
address_at ops i = (op_at ops i).state_addr

unfoldable pub high_at : List ℕ → ℕ → Bool
high_at ops i = ltb LAST-ADDRESS (address_at ops i)

unfoldable pub unaligned_at : List ℕ → ℕ → Bool
unaligned_at ops i = not (eqb (address_at ops i % 8) 0)

-- the segment number of operation i, and whether its word's upper half is not zero
abbrev pub segment_at : List ℕ → ℕ → ℕ
segment_at ops i = (op_at ops i).segment

unfoldable pub wide_at : List ℕ → ℕ → Bool
wide_at ops i = ltb LAST-SEGMENT (segment_at ops i)

-- 1 on the number of operations
abbrev pub too_many : List ℕ → Option Refusal → Option Refusal
too_many ops later = over_limit (op_count ops) later

-- 2: "a list, that is not whole .. operations, detail .. 2 list"
abbrev pub not_whole : List ℕ → Option Refusal → Option Refusal
not_whole ops later = refuse_if (not (eqb (length ops % OP-WORDS) 0)) (NotWhole 2) later

-- 4: "address above 2^64 − 193, .. detail the first such address"
abbrev pub too_high : List ℕ → Option Refusal → Option Refusal
too_high ops later = refuse_at (first_at (high_at ops) (op_count ops)) (λ i. HighAddress (address_at ops i)) later

-- 7: "address not a multiple of 8, detail the first such address"
abbrev pub unaligned : List ℕ → Option Refusal → Option Refusal
unaligned ops later = refuse_at (first_at (unaligned_at ops) (op_count ops)) (λ i. Unaligned (address_at ops i)) later

-- "after 4 and before 5": 4 is checked of the whole list before 7 is
abbrev pub bad_address : List ℕ → Option Refusal → Option Refusal
bad_address ops later = too_high ops (unaligned ops later)

-- 11: "a segment word of 2^32 or more in a list, detail the first such word"
abbrev pub bad_segment : List ℕ → Option Refusal → Option Refusal
bad_segment ops later = refuse_at (first_at (wide_at ops) (op_count ops)) (λ i. Segment (segment_at ops i)) later

-- "after 7 and before 5": 7 is checked of the whole list before 11 is
abbrev pub bad_operation : List ℕ → Option Refusal → Option Refusal
bad_operation ops later = bad_address ops (bad_segment ops later)

-- the refusal of a call that takes a list of operations and a slice of `room` words, of which it needs `needed`
unfoldable pub operations_refusal : ℕ → ℕ → List ℕ → Option Refusal
operations_refusal room needed ops =
    too_many ops
    (not_whole ops
    (too_short room needed
    (bad_operation ops
    accepted)))

-- None of the six conditions holds. proofs/Refusals.antt: `accepted-is`, the checks pass exactly then; and each
-- refusal with its detail.
pub record Acceptable (room needed : ℕ) (ops : List ℕ) : Type 0 where
  pub few : op_count ops ≤ MAX-OPS
  pub whole : length ops % OP-WORDS ≡ 0
  pub long : needed ≤ room
  pub low : (i : ℕ) → i < op_count ops → address_at ops i ≤ LAST-ADDRESS
  pub aligned : (i : ℕ) → i < op_count ops → address_at ops i % 8 ≡ 0
  pub segments : (i : ℕ) → i < op_count ops → segment_at ops i ≤ LAST-SEGMENT

-- The calls that take a floor refuse it first: "Refused: 9, any other floor, detail the floor, after 8 and before 1."
-- `generate_keccak_trace`: a table of `room` words is to hold the rows up to the height
unfoldable pub core_trace_refusal : ℕ → ℕ → List ℕ → Option Refusal
core_trace_refusal floor room ops =
    not_floor floor (operations_refusal room (height floor (op_count ops) * NUM-COLUMNS) ops)

-- `keccak_height`: 9, then 1 on the number of operations
unfoldable pub core_count_refusal : ℕ → ℕ → Option Refusal
core_count_refusal floor n = not_floor floor (count_refusal n)

-- `keccak_rows`: the same without padding, so that there is no floor
unfoldable pub core_rows_refusal : ℕ → List ℕ → Option Refusal
core_rows_refusal room ops = operations_refusal room (op_count ops * NUM-COLUMNS) ops

-- `is_wh_keys`: a slice of `room` words is to hold the keys of the list
unfoldable pub keys_refusal : ℕ → List ℕ → Option Refusal
keys_refusal room ops = operations_refusal room (op_count ops * KEY-WORDS) ops

-- `keccak_row`: a list, the index of one of its operations, and a slice of `room` words for that operation's row. 1 on
-- the index: "detail the least number refused", which is the number of operations
unfoldable pub core_row_refusal : ℕ → List ℕ → ℕ → Option Refusal
core_row_refusal room ops index =
    too_many ops
    (past_end (op_count ops) index
    (not_whole ops
    (too_short room NUM-COLUMNS
    (bad_operation ops
    accepted))))
