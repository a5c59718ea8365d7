-- `op_reader::advance` meets its contract: a whole record, a stretch past the address, or one byte.
use Rattle.answer.specs.Limits.{MAX-OPS}
use Rattle.op_file.proofs.Steps.{begun, size-least, whole, skip, plain-high}
use Rattle.op_file.proofs.Starts.{first-marked}
use Rattle.op_file.proofs.Laws.{feed-one}
use Rattle.std.specs.Prelude.{Ok}
use Rattle.op_file.specs.File.{is_marked, record_size}
use Rattle.op_file.specs.Reader.{record_count, has_segment, reading, feed_of}
use lib.Dec.{eqb}
use lib.ListN.{length, take, get_or, length-take}
use native.Mathlib.Omega.{arith}
use mathlib.Core.List.{List}
use mathlib.Core.Path.{◌≡◌, ap, sym, ◌∙◌}
use Prim.Native.Nat.{ℕ, ◌+◌, ◌<◌, ◌≤◌}
use Rattle.op_reader.proofs.advance.Goals as goal

-- the first record of a piece that has it whole
record First (s : List ℕ) (n : ℕ) : Type 0 where
  long : length (take n s) ≡ record_size (eqb (get_or s 1 0) 0x50)
  marked : is_marked (take n s) ≡ eqb (get_or s 1 0) 0x50

first : (s : List ℕ) (n : ℕ) → n ≡ record_size (eqb (get_or s 1 0) 0x50) → n ≤ length s → First s n
unfolding is_marked
first s n e l = record { long = length-take n s ∙ omega arith; marked = ap (λ (k : ℕ). is_marked (take k s)) e ∙ first-marked s }

pub slice_bounds-read_record-end : goal.slice_bounds-read_record-end
slice_bounds-read_record-end c = simp length-take (omega arith)

pub read_record-requires : goal.read_record-requires
read_record-requires c =
    let e = c.records_read.ensures.1 (omega arith) in
    let few : record_count c.args.c.whole < MAX-OPS = omega (arith, e, c.if-records_read-lt-MAX_OPS.true) in
    let f = first c.args.s.now _ c.record_size-size.ensures c.if-s-size.true in
    (few, f.long, f.marked)

pub returns-then-s-size : goal.returns-then-s-size
returns-then-s-size c =
    let e = c.records_read.ensures.1 (omega arith) in
    let few : record_count c.args.c.whole < MAX-OPS = omega (arith, e, c.if-records_read-lt-MAX_OPS.true) in
    let s = c.args.s.now in
    let p = c.args.c.begun in
    let n = c.record_size-size.result in
    let f = first s n c.record_size-size.ensures c.if-s-size.true in
    let z : 0 ≡ p.at = omega arith in
    record {
      some-used = omega (arith, c.record_size-size.ensures, size-least (eqb (get_or s 1 0) 0x50));
      all_there = omega arith;
      stands =
          c.read_record.ensures
          ∙ sym (whole c.args.c.whole few p.mark p.addr p.tail (omega arith) (omega arith) (take n s) (f.long ∙ ap record_size (sym f.marked)))
          ∙ ap (λ (k : ℕ). feed_of (Ok (reading c.args.c.whole (begun k p.mark p.addr p.tail))) (take n s)) z;
    }

pub returns-then-at : goal.returns-then-at
returns-then-at c =
    let e = c.records_read.ensures.1 (omega arith) in
    let few : record_count c.args.c.whole < MAX-OPS = omega (arith, e, c.if-records_read-lt-MAX_OPS.true) in
    let s = c.args.s.now in
    let p = c.args.c.begun in
    let k = c.least-k.result in
    let l : length (take k s) ≡ k = simp length-take (omega arith) in
    record {
      some-used = c.least-k.ensures.2 (omega arith) (omega arith);
      all_there = omega arith;
      stands =
          ap (λ (j : ℕ). Ok (reading c.args.c.whole (begun (p.at + j) p.mark p.addr p.tail))) (sym l)
          ∙ sym (skip c.args.c.whole few p.at p.mark p.addr p.tail (take k s) (omega arith) (λ j g h. plain-high j (omega arith)) (omega (arith, size-least (has_segment p))) (omega arith));
    }

pub returns : goal.returns
returns c =
    record { some-used = omega arith; all_there = omega arith; stands = c.byte.ensures ∙ sym (feed-one _ c.args.s.now (omega arith)) }
