-- `step::byte` meets its contract: the cases of one byte.
use Rattle.op_file.specs.declared.Begun.{Begun}
use Rattle.op_file.specs.Reader.{record_count, has_segment, reading, step_of}
use Rattle.op_file.specs.File.{record_size}
use Rattle.op_file.proofs.Steps.{size-least, size-most, Ended}
use Rattle.answer.specs.Limits.{MAX-OPS}
use Rattle.std.specs.Prelude.{Ok}
use Prim.Native.Nat.{ℕ, ◌+◌, ◌≤◌, ◌<◌}
use native.Mathlib.Omega.{arith}
use borrow.Author.Tests.{le-leb, lt-leb}
use mathlib.Core.Path.{◌≡◌, ap, sym, ◌∙◌}
use Rattle.op_reader.proofs.step.byte.Goals as goal

-- there is room for a record, by what `records_read` said
room : {n k : ℕ} → (k ≤ MAX-OPS → k ≡ n) → k < MAX-OPS → n < MAX-OPS
room f l = let e = f (omega arith) in omega arith

pub returns-then-records_read-ge-MAX_OPS : goal.returns-then-records_read-ge-MAX_OPS
unfolding step_of
returns-then-records_read-ge-MAX_OPS c =
    let full : MAX-OPS ≤ record_count c.args.c.whole = omega (arith, c.records_read.ensures.0, c.if-records_read-ge-MAX_OPS.true) in
    simp (le-leb MAX-OPS _ full)

pub returns-then-is_wrong : goal.returns-then-is_wrong
unfolding step_of
returns-then-is_wrong c =
    simp (lt-leb _ _ (room c.records_read.ensures.1 c.if-records_read-ge-MAX_OPS.false), sym c.is_wrong.ensures ∙ c.if-is_wrong.true)

pub overflow_sub-record_size : goal.overflow_sub-record_size
overflow_sub-record_size c = omega (arith, c.record_size.ensures, size-least (has_segment c.args.c.begun))

pub take_byte-requires : goal.take_byte-requires
take_byte-requires c = omega (arith, c.record_size.ensures, size-most (has_segment c.args.c.begun), c.if-p-record_size.true)

pub returns-then-p-record_size : goal.returns-then-p-record_size
unfolding step_of
returns-then-p-record_size c =
    let p = c.args.c.begun in
    let more : p.at + 1 < record_size (has_segment p) = omega (arith, c.record_size.ensures, c.if-p-record_size.true) in
    simp (lt-leb _ _ (room c.records_read.ensures.1 c.if-records_read-ge-MAX_OPS.false), sym c.is_wrong.ensures ∙ c.if-is_wrong.false, lt-leb _ _ more)
    (ap (λ (q : Begun). Ok (reading c.args.c.whole q)) c.take_byte.ensures)

pub end_record-requires : goal.end_record-requires
end_record-requires c = room c.records_read.ensures.1 c.if-records_read-ge-MAX_OPS.false

pub returns : goal.returns
unfolding step_of
returns c =
    let few = room c.records_read.ensures.1 c.if-records_read-ge-MAX_OPS.false in
    let p = c.args.c.begun in
    let none_left : record_size (has_segment p) ≤ p.at + 1 = omega (arith, c.record_size.ensures, c.if-p-record_size.false) in
    simp (lt-leb _ _ few, sym c.is_wrong.ensures ∙ c.if-is_wrong.false, le-leb _ _ none_left)
    (c.end_record.ensures ∙ ap (λ (s : ℕ). Ended c.args.c.whole few (has_segment p) p.addr s) c.last_segment-segment.ensures)
