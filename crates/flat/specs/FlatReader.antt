-- A reader of an operation file, and what it says at the end, as flat structs of words. Every struct is a reader:
-- where `reading` is 1 it has met no fault; else it has, and a number that no refusal has, 0 too, counts as 6.
use Rattle.std.specs.Prelude.{ℕ, eqb}
use Rattle.lists.specs.Tab.{pick}
use Rattle.answer.specs.Refusal.{refusal_number, refusal_detail}
use Rattle.answer.specs.declared.Refusal.{Refusal}
use Rattle.answer.specs.declared.Refusal.TheVariants.{PastEnd, NotWhole, TooShort, HighAddress, NotElement, BadRecord, Unaligned, Rounds, Floor, Register, Segment, LongMessage, LateTimestamp, Files}
use Rattle.op_file.specs.declared.Reading.{Reading}
use Rattle.op_file.specs.Reader.{reading}
use Rattle.flat.specs.declared.FlatCursor.{FlatCursor}
use Rattle.flat.specs.declared.FlatTally.{FlatTally}
use Rattle.std.specs.Prelude.{Result, Ok, Err}
use Rattle.op_file.specs.declared.Sums.{Sums}

-- the refusal of this number and detail
unfoldable pub refusal_of : ℕ → ℕ → Refusal
refusal_of number detail =
    pick (eqb number 1) (PastEnd detail)
    (pick (eqb number 2) (NotWhole detail)
    (pick (eqb number 3) (TooShort detail)
    (pick (eqb number 4) (HighAddress detail)
    (pick (eqb number 5) (NotElement detail)
    (pick (eqb number 7) (Unaligned detail)
    (pick (eqb number 8) (Rounds detail)
    (pick (eqb number 9) (Floor detail)
    (pick (eqb number 10) (Register detail)
    (pick (eqb number 11) (Segment detail)
    (pick (eqb number 12) (LongMessage detail)
    (pick (eqb number 13) (LateTimestamp detail)
    (pick (eqb number 14) (Files detail)
    (BadRecord detail)))))))))))))

-- a reader that has met no fault: each of its words is one of the struct's
unfoldable pub reading_of : FlatCursor → Reading
reading_of c =
    reading
    (record { n = c.records; unaligned = c.unaligned; start = c.start; segments = record { shown = c.segments; least = c.least_segment; greatest = c.greatest_segment } })
    (record { at = c.at; mark = c.mark; addr = c.address; tail = c.tail })

unfoldable pub cursor_of : FlatCursor → Result Reading Refusal
cursor_of c = pick (eqb c.reading 1) (Ok (reading_of c)) (Err (refusal_of c.refusal c.detail))

unfoldable pub flat_cursor : Result Reading Refusal → FlatCursor
flat_cursor (Ok c) =
    let w = c.whole in
    let p = c.begun in
    record {
      refusal = 0;
      detail = 0;
      reading = 1;
      records = w.n;
      at = p.at;
      address = p.addr;
      unaligned = w.unaligned;
      start = w.start;
      mark = p.mark;
      tail = p.tail;
      segments = w.segments.shown;
      least_segment = w.segments.least;
      greatest_segment = w.segments.greatest;
    }
flat_cursor (Err r) =
    record {
      refusal = refusal_number r;
      detail = refusal_detail r;
      reading = 0;
      records = 0;
      at = 0;
      address = 0;
      unaligned = 0;
      start = 0;
      mark = 0;
      tail = 0;
      segments = 0;
      least_segment = 0;
      greatest_segment = 0;
    }

unfoldable pub flat_tally : Result Sums Refusal → FlatTally
flat_tally (Ok s) =
    record {
      refusal = 0;
      detail = 0;
      done = 1;
      ops = s.ops;
      core_rows = s.core_rows;
      round_rows = s.round_rows;
      byte_alu = s.byte_alu;
      are_bytes = s.are_bytes;
      keccak_rc = s.keccak_rc;
      is_halfword = s.is_halfword;
      is_wh = s.is_wh;
      memw = s.memw;
      ecall = s.ecall;
      unaligned = s.unaligned;
      segments = s.segments.shown;
      least_segment = s.segments.least;
      greatest_segment = s.segments.greatest;
    }
flat_tally (Err r) =
    record {
      refusal = refusal_number r;
      detail = refusal_detail r;
      done = 0;
      ops = 0;
      core_rows = 0;
      round_rows = 0;
      byte_alu = 0;
      are_bytes = 0;
      keccak_rc = 0;
      is_halfword = 0;
      is_wh = 0;
      memw = 0;
      ecall = 0;
      unaligned = 0;
      segments = 0;
      least_segment = 0;
      greatest_segment = 0;
    }
