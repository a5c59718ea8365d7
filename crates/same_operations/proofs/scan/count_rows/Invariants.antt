-- `scan::count_rows` meets its contract: n of the active rows before q are equal.
use Prim.Native.Nat.{◌≤◌}
use Rattle.verdict.specs.Kind.{row}
use Rattle.verdict.specs.CoreAndRound.{core_layout}
use Rattle.partners.specs.Partners.{holds_at}
use Rattle.same_operations.specs.Same.{row_cells, core_run}
use Rattle.same_operations.proofs.Scans.{Counted}
use Rattle.same_operations.proofs.scan.count_rows.Given as goal

abbrev pub invariant-loop-q : goal.invariant-loop-q
invariant-loop-q l = (l.b ≤ l.q) × (l.q ≤ l.r) × Counted (holds_at (core_run l.core) (row_cells (row core_layout l.core l.r))) l.b l.q l.n
