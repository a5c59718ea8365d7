-- `bitwise_rows::trace::put_table` meets its contract: after i turns the rows below i are stored.
use Prim.Native.Nat.{◌*◌}
use Rattle.lists.specs.Tab.{cells_of}
use Rattle.lists.proofs.Laws.{Filled}
use Rattle.bitwise.specs.Table.{trace_row}
use Rattle.bitwise_rows.proofs.trace.put_table.Given as goal

abbrev pub invariant-loop-i : goal.invariant-loop-i
invariant-loop-i l = Filled l.initial.table 0 22020096 (cells_of 21 trace_row) l.table (l.i * 21)
