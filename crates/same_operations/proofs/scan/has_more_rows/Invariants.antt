-- `scan::has_more_rows` meets its contract: of c, `left` may still come.
use Prim.Native.Nat.{◌≤◌}
use lib.ListN.{drop}
use Rattle.partners.specs.Partners.{holds_at}
use Rattle.same_operations.specs.Same.{record_cells, core_run}
use Rattle.same_operations.proofs.Scans.{Left}
use Rattle.same_operations.proofs.scan.has_more_rows.Given as goal

abbrev pub invariant-loop-r : goal.invariant-loop-r
invariant-loop-r l = (l.b ≤ l.r) × (l.r ≤ l.rows) × Left (holds_at (core_run l.core) (record_cells (drop l.from l.file))) l.b l.c l.r l.left
