use native.Mathlib.Nat.{zero-add}
use Rattle.lists.proofs.Laws.{filled_none, filled_row_lem, filled-rows}
use Rattle.is_wh_trace.specs.Trace.{trace_row}
use Rattle.is_wh_trace.proofs.Rows.{length-trace}
use mathlib.Core.Path.{sym}
use Prim.Native.Nat.{◌*◌}
use native.Mathlib.Omega.{arith}
use Rattle.is_wh_trace.proofs.put_rows.Goals as goal

pub loop-i-init : goal.loop-i-init
loop-i-init c = (omega arith, filled_none _ _ _ _)

pub loop-i-preserved : goal.loop-i-preserved
unfolding trace_row
loop-i-preserved c =
    let i = c.loop-i.i in (
      omega arith,
      filled_row_lem _ 4 (trace_row c.args.rows.now) i c.loop-i.invariant.1 c.loop-i-test.true (length-trace c.args.rows.now i) (sym (zero-add (i * 4))) c.put_row.ensures,
    )

pub returns : goal.returns
returns c = filled-rows _ 4 _ c.loop-i.i c.loop-i.invariant.1 c.loop-i-test.false
