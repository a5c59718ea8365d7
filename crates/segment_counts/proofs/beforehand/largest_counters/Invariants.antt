-- `segment_counts::beforehand::largest_counters` meets its contract: after r turns the largest of the first r rows.
use mathlib.Core.Path.{◌≡◌}
use Prim.Native.Nat.{◌≤◌}
use Rattle.bitwise.specs.Columns.{NUM-ROWS}
use Rattle.segment_counts.proofs.Looking.{up_to}
use Rattle.segment_counts.proofs.beforehand.largest_counters.Given as goal

abbrev pub invariant-loop-r : goal.invariant-loop-r
invariant-loop-r l = (l.most ≡ up_to l.counters l.r) × (l.r ≤ NUM-ROWS)
