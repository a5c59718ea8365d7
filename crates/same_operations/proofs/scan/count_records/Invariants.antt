-- `scan::count_records` meets its contract: n of the records before k are equal.
use Prim.Native.Nat.{◌≤◌}
use lib.ListN.{drop}
use Rattle.partners.specs.Partners.{holds_at}
use Rattle.same_operations.specs.Same.{record_cells, file_run}
use Rattle.same_operations.specs.Passed.{Stands}
use Rattle.same_operations.proofs.Scans.{Counted}
use Rattle.same_operations.proofs.scan.count_records.Given as goal

abbrev pub invariant-loop-k : goal.invariant-loop-k
invariant-loop-k l = (l.a ≤ l.k) × (l.k ≤ l.i) × Stands l.file l.k l.at × Counted (holds_at (file_run l.file) (record_cells (drop l.from l.file))) l.a l.k l.n
