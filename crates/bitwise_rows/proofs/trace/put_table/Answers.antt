use mathlib.Core.Path.{sym}
use Prim.Native.Nat.{◌+◌, ◌*◌, ◌≤◌}
use native.Mathlib.Nat.{zero-add}
use native.Mathlib.Omega.{arith}
use lib.ListN.{length}
use Rattle.lists.proofs.Laws.{filled_none, filled_row_lem, filled-rows}
use Rattle.lists.proofs.Kept.{part_length, part-stored}
use Rattle.bitwise.specs.Table.{trace_row, bitwise_table}
use Rattle.bitwise.proofs.Table.{length-trace_row}
use Rattle.bitwise_rows.proofs.trace.put_table.Goals as goal

pub loop-i-init : goal.loop-i-init
loop-i-init c = filled_none _ _ _ _

pub put_trace_row-requires : goal.put_trace_row-requires
put_trace_row-requires c =
    let l = c.loop-i in
    let bound : l.i * 21 + 21 ≤ length l.table = omega arith in
    omega (arith, part_length l.table (l.i * 21) 21 bound)

pub loop-i-preserved : goal.loop-i-preserved
loop-i-preserved c =
    let i = c.loop-i.i in
    let table = c.loop-i.table in
    let bound : i * 21 + 21 ≤ length table = omega arith in
    filled_row_lem 1048576 21 trace_row i c.loop-i.invariant c.loop-i-test.true (length-trace_row i) (sym (zero-add (i * 21)))
    (part-stored table (i * 21) 21 bound (trace_row i) _ (omega (arith, length-trace_row i)) c.put_trace_row.ensures)

pub returns : goal.returns
unfolding bitwise_table
returns c = filled-rows 1048576 21 trace_row c.loop-i.i c.loop-i.invariant c.loop-i-test.false
