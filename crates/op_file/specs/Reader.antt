-- Reading a file in pieces: where a reader stands after each byte, and what the end of the file makes of it.
use Rattle.std.specs.Prelude.{ℕ, ◌+◌, ◌-◌, ◌*◌, ◌/◌, ◌%◌, ◌^◌, ◌<◌, ◌≤◌, min, max, ◌≡◌, Bool, true, false, not, List, [], ◌∷◌, length, take, ltb, leb, eqb}
use Rattle.std.proofs.Math.Option.{Option, none, some}
use Rattle.lists.specs.Tab.{pick}
use Rattle.answer.specs.Limits.{MAX-OPS}
use Rattle.answer.specs.Refusal.{accepted, not_floor}
use Rattle.answer.specs.declared.Refusal.{Refusal}
use Rattle.answer.specs.declared.Refusal.TheVariants.{PastEnd, HighAddress, BadRecord}
use Rattle.keccak.specs.Height.{height}
use Rattle.keccak.specs.Row.{LAST-ADDRESS, LAST-SEGMENT}
use Rattle.keccak_rnd.specs.Row.{ARE-BYTES-PER-ROW, round_height, padding-are-bytes}
use Rattle.op_file.specs.File.{RECORD-BYTES, MAX-FILE-BYTES, FIRST-MARK, SEGMENT-MARK, is_mark, record_size, told}
use Rattle.op_file.specs.declared.Segments.{Segments}
use Rattle.op_file.specs.declared.Whole.{Whole}
use Rattle.op_file.specs.declared.Begun.{Begun}
use Rattle.op_file.specs.declared.Reading.{Reading}
use Rattle.op_file.specs.declared.Sums.{Sums}
use Rattle.std.specs.Prelude.{Result, Ok, Err}

-- ---- the record that is being read
-- byte `at` of a record contradicts both marks
unfoldable pub wrong : ℕ → ℕ → Bool
wrong at b = pick (eqb at 0) (not (eqb b FIRST-MARK)) (pick (eqb at 1) (not (is_mark b)) false)

-- byte `at` of a record is one of its address
unfoldable pub in_address : ℕ → Bool
in_address at = pick (leb 10 at) (ltb at 18) false

-- the bytes of a number come in from the top, so that after eight of them the first is the lowest
unfoldable pub shifted : ℕ → ℕ → ℕ
shifted a b = a / 256 + b * 72057594037927936

-- the segment number of a record, by its mark and by what its bytes from the 418th on make: four of them are the upper half
unfoldable pub segment_by : Bool → ℕ → ℕ
segment_by marked tail = pick marked (tail / 2 ^ 32) 0

-- whether it has one
abbrev pub has_segment : Begun → Bool
has_segment p = eqb p.mark SEGMENT-MARK

-- a record after one more byte
unfoldable pub taken : Begun → ℕ → Begun
taken p b =
    record {
      at = p.at + 1;
      mark = pick (eqb p.at 1) b p.mark;
      addr = pick (in_address p.at) (shifted p.addr b) p.addr;
      tail = pick (leb RECORD-BYTES p.at) (shifted p.tail b) p.tail;
    }

abbrev pub none_begun : Begun
none_begun = record { at = 0; mark = 0; addr = 0; tail = 0 }

-- ---- the whole records that are read
-- the segment numbers of counted records with one more of them
unfoldable pub counted : Segments → Bool → ℕ → Segments
counted s marked segment =
    record {
      shown = pick marked 1 s.shown;
      least = min s.least segment;
      greatest = max s.greatest segment;
    }

abbrev pub no_segments : Segments
no_segments = record { shown = 0; least = LAST-SEGMENT; greatest = 0 }

abbrev pub no_records : Whole
no_records = record { n = 0; unaligned = 0; start = 0; segments = no_segments }

-- the records that are read, with one more at this address
unfoldable pub record_read : Whole → ℕ → Bool → ℕ → Whole
record_read w addr marked segment =
    pick (eqb (addr % 8) 0)
    (record { n = w.n + 1; unaligned = w.unaligned; start = w.start + record_size marked; segments = counted w.segments marked segment })
    (record { n = w.n; unaligned = w.unaligned + 1; start = w.start + record_size marked; segments = w.segments })

-- how many they are. Where the next would start past the most bytes of a file, as a caller may have made up, they count as
-- one more than a file may have
unfoldable pub record_count : Whole → ℕ
record_count w = pick (ltb MAX-FILE-BYTES w.start) (MAX-OPS + 1) (w.n + w.unaligned)

-- ---- a reader
abbrev pub reading : Whole → Begun → Reading
reading w p = record { whole = w; begun = p }

-- after one more byte
unfoldable pub step_of : Result Reading Refusal → ℕ → Result Reading Refusal
step_of (Err r) b = Err r
step_of (Ok c) b =
    let w = c.whole in
    let p = c.begun in
    pick (leb MAX-OPS (record_count w))
    (Err (PastEnd (MAX-OPS + 1)))
    (pick (wrong p.at b)
    (Err (BadRecord w.start))
    (pick (leb (record_size (has_segment p)) (p.at + 1))
    (pick (ltb LAST-ADDRESS p.addr)
    (Err (HighAddress p.addr))
    (Ok (reading (record_read w p.addr (has_segment p) (segment_by (has_segment p) (shifted p.tail b))) none_begun)))
    (Ok (reading w (taken p b)))))

-- after a piece of the file
unfoldable pub feed_of : Result Reading Refusal → List ℕ → Result Reading Refusal
feed_of c [] = c
feed_of c (b ∷ bs) = feed_of (step_of c b) bs

-- at the start of a file
abbrev pub file_start : Result Reading Refusal
file_start = Ok (reading no_records none_begun)

-- ---- the end of the file
-- what the padding rows of the round table of n operations send on AreBytes: in shipped mode those of an empty table
-- too, "The four zero round rows then each send 220 AreBytes tuples.", and "The 880 of shipped mode becomes 220 times the
-- floor."
unfoldable pub padding_sum : ℕ → Bool → ℕ → ℕ
padding_sum floor true n = (round_height 24 floor n - n * 24) * ARE-BYTES-PER-ROW
padding_sum floor false n = padding-are-bytes 24 floor n

-- the sums as they are computed (proofs/Totals.antt: `counts-are-sums`), of n operations, where `left` records are left out
unfoldable pub counts_of : ℕ → Bool → ℕ → Segments → ℕ → Sums
counts_of floor shipped n segments left =
    record {
      ops = n;
      core_rows = height floor n;
      round_rows = round_height 24 floor n;
      byte_alu = 19393 * n;
      are_bytes = 5284 * n + padding_sum floor shipped n;
      keccak_rc = 24 * n;
      is_halfword = 25 * n;
      is_wh = 25 * n;
      memw = 26 * n;
      ecall = n;
      segments = segments;
      unaligned = left;
    }

-- what the end of the file makes of a reader: a record that it breaks off is cut, and one too many where the file has
-- all the records that it may have
unfoldable pub end_of : ℕ → Bool → Result Reading Refusal → Result Sums Refusal
end_of floor shipped (Err r) = Err r
end_of floor shipped (Ok c) =
    let w = c.whole in
    pick (ltb MAX-OPS (record_count w))
    (Err (PastEnd (MAX-OPS + 1)))
    (pick (eqb c.begun.at 0)
    (Ok (counts_of floor shipped w.n (told w.segments) w.unaligned))
    (pick (leb MAX-OPS (record_count w))
    (Err (PastEnd (MAX-OPS + 1)))
    (Err (BadRecord w.start))))

-- the refusal of a check that comes first, or what is said where it passes
abbrev pub checked : Option Refusal → Result Sums Refusal → Result Sums Refusal
checked none t = t
checked (some r) t = Err r

-- the same where the floor is checked first
unfoldable pub finish_of : ℕ → Bool → Result Reading Refusal → Result Sums Refusal
finish_of floor shipped c = checked (not_floor floor accepted) (end_of floor shipped c)

-- a reader after a whole record: at its fault, or before the next record
abbrev pub after : Option Refusal → Result Reading Refusal → Result Reading Refusal
after none c = c
after (some r) c = Err r

-- part of a piece is read: how much of it, and where the reader then stands
pub record Advanced (c : Result Reading Refusal) (s : List ℕ) (d : Result Reading Refusal) (used : ℕ) : Type 0 where
  pub some-used : 0 < used
  pub all_there : used ≤ length s
  pub stands : d ≡ feed_of c (take used s)
