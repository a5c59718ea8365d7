-- The operation file: its records under either mark, the first faulty one, the operations, and what `tally` says of a file.
use Rattle.std.specs.Prelude.{ℕ, zero, suc, ◌+◌, ◌*◌, ◌%◌, min, max, Bool, true, false, not, List, [], ◌∷◌, ◌++◌, length, take, drop, get_or, ltb, leb, eqb}
use Rattle.std.proofs.Math.Option.{Option, none, some, or_else}
use Rattle.lists.specs.Tab.{pick, tab, table_of, word}
use Rattle.lists.specs.Select.{selected}
use Rattle.bits.specs.Bits.{pack}
use Rattle.answer.specs.Limits.{MAX-OPS}
use Rattle.answer.specs.Refusal.{refuse_if, accepted, not_floor}
use Rattle.answer.specs.declared.Refusal.{Refusal}
use Rattle.answer.specs.declared.Refusal.TheVariants.{PastEnd, HighAddress, BadRecord}
use Rattle.tuple.specs.declared.Bus.{Bus}
use Rattle.tuple.specs.declared.Bus.TheVariants.{ByteAlu, AreBytes, IsHalfword, IsWh, KeccakRc, Memw, Ecall}
use Rattle.tuple.specs.declared.Side.{Side}
use Rattle.tuple.specs.declared.Side.TheVariants.{Sender, Receiver}
use Rattle.keccak.specs.Height.{height}
use Rattle.keccak.specs.Row.{OP-WORDS, SEGMENT-WORD, LAST-ADDRESS, LAST-SEGMENT, op_at}
use Rattle.keccak.specs.Tuples.{core_table_sum}
use Rattle.keccak.specs.declared.KeccakOperation.{KeccakOperation}
use Rattle.keccak_rnd.specs.Row.{round_height}
use Rattle.keccak_rnd.specs.Tuples.{round_table_sum}
use Rattle.op_file.specs.declared.Segments.{Segments}
use Rattle.op_file.specs.declared.Sums.{Sums}
use Rattle.std.specs.Prelude.{Result, Ok, Err}

-- "Record: bytes 4B 4F (hexadecimal), then timestamp, address, 25 input and 25 output lanes, each 8 bytes, lowest
-- first: 418 bytes."; "An operation gains a 32-bit segment number, .. in the file under mark 4B 50 with 4 more bytes at the
-- end, lowest first."
abbrev pub RECORD-BYTES : ℕ
RECORD-BYTES = 418

abbrev pub SEGMENT-RECORD-BYTES : ℕ
SEGMENT-RECORD-BYTES = 422

-- the most bytes of a file
abbrev pub MAX-FILE-BYTES : ℕ
MAX-FILE-BYTES = MAX-OPS * SEGMENT-RECORD-BYTES

-- the byte that both marks begin with, and the second one of each
abbrev pub FIRST-MARK : ℕ
FIRST-MARK = 0x4B

abbrev pub PLAIN-MARK : ℕ
PLAIN-MARK = 0x4F

abbrev pub SEGMENT-MARK : ℕ
SEGMENT-MARK = 0x50

unfoldable pub is_mark : ℕ → Bool
is_mark b = pick (eqb b PLAIN-MARK) true (eqb b SEGMENT-MARK)

-- ---- a record
-- bytes that begin as a record with a segment number does, and how long the record is that they begin
unfoldable pub is_marked : List ℕ → Bool
is_marked r = eqb (get_or r 1 0) SEGMENT-MARK

unfoldable pub record_size : Bool → ℕ
record_size marked = pick marked SEGMENT-RECORD-BYTES RECORD-BYTES

abbrev pub size_of : List ℕ → ℕ
size_of r = record_size (is_marked r)

-- the records of a file, the last possibly cut, at most k of them. Each has at least a byte, so as many as the file has
-- bytes are enough
unfoldable pub split : ℕ → List ℕ → List (List ℕ)
split zero s = []
split (suc k) [] = []
split (suc k) (b ∷ s) = take (size_of (b ∷ s)) (b ∷ s) ∷ split k (drop (size_of (b ∷ s)) (b ∷ s))

unfoldable pub records_of : List ℕ → List (List ℕ)
records_of file = split (length file) file

-- the bytes of some records, one after the other
unfoldable pub bytes_of : List (List ℕ) → List ℕ
bytes_of [] = []
bytes_of (r ∷ rs) = r ++ bytes_of rs

-- all its bytes are there, and the first two are a mark
unfoldable pub is_whole : List ℕ → Bool
is_whole r = pick (eqb (length r) (size_of r)) (pick (eqb (get_or r 0 0) FIRST-MARK) (is_mark (get_or r 1 0)) false) false

-- "Records marked 4B 4F still read, as segment 0."
unfoldable pub segment_of : List ℕ → ℕ
segment_of r = pick (is_marked r) (pack 4 RECORD-BYTES (word r)) 0

-- word j of a record: eight bytes, lowest first, of which the address is word 1; and behind these 52 the segment number
unfoldable pub record_word : List ℕ → ℕ → ℕ
record_word r j = pick (ltb j SEGMENT-WORD) (pack 8 (2 + 8 * j) (word r)) (segment_of r)

abbrev pub address_of : List ℕ → ℕ
address_of r = record_word r 1

-- ---- faults
-- what is wrong with a record: it is the i-th, starts at byte `at` of the file, and its bytes are r. "`tally` gives 1
-- as soon as any byte follows record 89,478,485; within a record, 6 comes before 4."
unfoldable pub fault_of : ℕ → ℕ → List ℕ → Option Refusal
fault_of i at r =
    refuse_if (leb MAX-OPS i) (PastEnd (MAX-OPS + 1))
    (refuse_if (not (is_whole r)) (BadRecord at)
    (refuse_if (ltb LAST-ADDRESS (address_of r)) (HighAddress (address_of r))
    accepted))

-- where record i of some starts, from the start of the first on: behind the bytes of those before it
unfoldable pub start_at : List (List ℕ) → ℕ → ℕ
start_at rs zero = 0
start_at [] (suc i) = 0
start_at (r ∷ rs) (suc i) = length r + start_at rs i

-- what is wrong with the first faulty record of those from the i-th on, which starts at byte `at` of the file
unfoldable pub first_fault : ℕ → ℕ → List (List ℕ) → Option Refusal
first_fault i at [] = none
first_fault i at (r ∷ rs) = or_else (fault_of i at r) (first_fault (i + 1) (at + length r) rs)

-- ---- the operations
-- the words of a record
unfoldable pub operation_words : List ℕ → List ℕ
operation_words r = tab OP-WORDS (record_word r)

-- the flat list of some records, and of all records of a file
unfoldable pub records_words : List (List ℕ) → List ℕ
records_words rs = table_of (length rs) OP-WORDS (λ i. operation_words (get_or rs i []))

unfoldable pub file_words : List ℕ → List ℕ
file_words file = records_words (records_of file)

-- ---- the records that are counted
-- "`tally` counts such records in a last line `unaligned N`, .. and leaves them out of the record count, both heights and
-- all sums.": such a record has an address that is no multiple of 8
unfoldable pub is_aligned : List ℕ → Bool
is_aligned r = eqb (address_of r % 8) 0

unfoldable pub is_unaligned : List ℕ → Bool
is_unaligned r = not (is_aligned r)

abbrev pub aligned_of : List ℕ → List (List ℕ)
aligned_of file = selected is_aligned (records_of file)

abbrev pub unaligned_of : List ℕ → List (List ℕ)
unaligned_of file = selected is_unaligned (records_of file)

-- ---- their segment numbers
-- "Where a counted record is marked 4B 50"
unfoldable pub any_marked : List (List ℕ) → Bool
any_marked [] = false
any_marked (r ∷ rs) = pick (is_marked r) true (any_marked rs)

-- "least and greatest of all counted records"; of none, which no line tells, the last and the first number of 32 bits
unfoldable pub least_of : List (List ℕ) → ℕ
least_of [] = LAST-SEGMENT
least_of (r ∷ rs) = min (segment_of r) (least_of rs)

unfoldable pub greatest_of : List (List ℕ) → ℕ
greatest_of [] = 0
greatest_of (r ∷ rs) = max (segment_of r) (greatest_of rs)

-- what is told of them: both, or nothing
abbrev pub none_told : Segments
none_told = record { shown = 0; least = 0; greatest = 0 }

unfoldable pub told : Segments → Segments
told s = pick (eqb s.shown 0) none_told s

unfoldable pub segments_of : List (List ℕ) → Segments
segments_of rs = told (record { shown = pick (any_marked rs) 1 0; least = least_of rs; greatest = greatest_of rs })

-- ---- the sums
-- "the sum of multiplicities that both tables send (Ecall: receive)" on a bus, over the rows of the tables of n
-- operations as they are written. No multiplicity depends on the syscall number. "New verifiers have a floor of their own:
-- the height rule takes it in place of 4, and so do .. `tally`.": it is the floor of both tables
unfoldable pub written_sum : ℕ → ℕ → Side → Bus → ℕ → (ℕ → KeccakOperation) → ℕ
written_sum floor syscall s b n op = core_table_sum s b 24 syscall floor n op + round_table_sum s b 24 floor n op

-- what `tally` says of a bus. "In shipped mode AreBytes equals the sum over the rows as written, for every n.": so does
-- every bus. Otherwise: "An empty file counts as one whose tables are not shipped: it gives 0, 4, 4, then zeros."
unfoldable pub bus_total : ℕ → Bool → ℕ → Side → Bus → ℕ → (ℕ → KeccakOperation) → ℕ
bus_total floor true syscall s b n op = written_sum floor syscall s b n op
bus_total floor false syscall s b n op = pick (eqb n 0) 0 (written_sum floor syscall s b n op)

-- the sums of n operations with these segment numbers, where `left` records are left out
unfoldable pub sums_of : ℕ → Bool → ℕ → ℕ → (ℕ → KeccakOperation) → Segments → ℕ → Sums
sums_of floor shipped syscall n op segments left =
    record {
      ops = n;
      core_rows = height floor n;
      round_rows = round_height 24 floor n;
      byte_alu = bus_total floor shipped syscall Sender ByteAlu n op;
      are_bytes = bus_total floor shipped syscall Sender AreBytes n op;
      keccak_rc = bus_total floor shipped syscall Sender KeccakRc n op;
      is_halfword = bus_total floor shipped syscall Sender IsHalfword n op;
      is_wh = bus_total floor shipped syscall Sender IsWh n op;
      memw = bus_total floor shipped syscall Sender Memw n op;
      ecall = bus_total floor shipped syscall Receiver Ecall n op;
      segments = segments;
      unaligned = left;
    }

-- those of a file's counted records
abbrev pub file_sums : ℕ → Bool → ℕ → List ℕ → Sums
file_sums floor shipped syscall file =
    sums_of floor shipped syscall (length (aligned_of file)) (op_at (records_words (aligned_of file))) (segments_of (aligned_of file)) (length (unaligned_of file))

-- the first fault, or the sums
abbrev pub unless : Option Refusal → Sums → Result Sums Refusal
unless none s = Ok s
unless (some r) s = Err r

-- "Refused: 9, any other floor, detail the floor, after 8 and before 1.": before anything that is wrong with the file
unfoldable pub tally_of : ℕ → Bool → ℕ → List ℕ → Result Sums Refusal
tally_of floor shipped syscall file = unless (not_floor floor (first_fault 0 0 (records_of file))) (file_sums floor shipped syscall file)
