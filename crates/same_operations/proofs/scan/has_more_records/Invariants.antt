-- `scan::has_more_records` meets its contract: of c, `left` may still come.
use Prim.Native.Nat.{◌≤◌}
use Rattle.verdict.specs.Kind.{row}
use Rattle.verdict.specs.CoreAndRound.{core_layout}
use Rattle.partners.specs.Partners.{holds_at}
use Rattle.same_operations.specs.Same.{row_cells, file_run}
use Rattle.same_operations.specs.Passed.{Stands}
use Rattle.same_operations.proofs.Scans.{Left}
use Rattle.same_operations.proofs.scan.has_more_records.Given as goal

abbrev pub invariant-loop-k : goal.invariant-loop-k
invariant-loop-k l = (l.k ≤ l.n) × Stands l.file l.k l.at × Left (holds_at (file_run l.file) (row_cells (row core_layout l.core l.r))) l.a l.c l.k l.left
