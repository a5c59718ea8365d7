-- `bitwise_counts::histogram::put_counters` meets its contract: after r turns the rows below r have their multiplicities.
use Prim.Native.Nat.{◌*◌}
use Rattle.lists.specs.Tab.{cells_of}
use Rattle.lists.proofs.Laws.{Filled}
use Rattle.bitwise.specs.Table.{filled_row}
use Rattle.bitwise_counts.proofs.histogram.put_counters.Given as goal

abbrev pub invariant-loop-r : goal.invariant-loop-r
invariant-loop-r l = Filled l.initial.table 0 22020096 (cells_of 21 (filled_row l.counters l.initial.table)) l.table (l.r * 21)
