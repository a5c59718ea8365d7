-- `is_wh_trace::put_rows` meets its contract: after i turns the first i rows are stored.
use Rattle.lists.specs.Tab.{cells_of}
use Rattle.lists.proofs.Laws.{Filled}
use Rattle.is_wh_trace.specs.Trace.{trace_row}
use Prim.Native.Nat.{◌*◌, ◌≤◌}
use Rattle.is_wh_trace.proofs.put_rows.Given as goal

abbrev pub invariant-loop-i : goal.invariant-loop-i
invariant-loop-i l = (l.i ≤ l.n) × Filled l.initial.table 0 (l.n * 4) (cells_of 4 (trace_row l.rows)) l.table (l.i * 4)
