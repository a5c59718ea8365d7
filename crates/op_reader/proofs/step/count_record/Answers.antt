-- `step::count_record` meets its contract: the two kinds of address.
use Rattle.op_file.proofs.Laws.{count_room, read-aligned, read-unaligned}
use Rattle.op_file.proofs.Steps.{size-most}
use borrow.Author.Tests.{eq-eqb, ne_eqb}
use native.Mathlib.Omega.{arith}
use Rattle.op_reader.proofs.step.count_record.Goals as goal

pub overflow_add-start : goal.overflow_add-start
overflow_add-start c = let r = count_room c.args.w (omega (arith, c.requires)) in omega (arith, c.record_size.ensures, size-most c.args.marked, r.1)

pub overflow_add-result : goal.overflow_add-result
overflow_add-result c = let r = count_room c.args.w (omega (arith, c.requires)) in omega (arith, r.0, c.requires)

pub returns-then-addr-eq0 : goal.returns-then-addr-eq0
returns-then-addr-eq0 c =
    cc (read-aligned c.args.w c.args.addr c.args.marked c.args.segment (eq-eqb _ _ c.if-addr-eq0.true))

pub overflow_add-result-2 : goal.overflow_add-result-2
overflow_add-result-2 c = let r = count_room c.args.w (omega (arith, c.requires)) in omega (arith, r.0, c.requires)

pub returns : goal.returns
returns c =
    cc (read-unaligned c.args.w c.args.addr c.args.marked c.args.segment (ne_eqb _ _ c.if-addr-eq0.false))
