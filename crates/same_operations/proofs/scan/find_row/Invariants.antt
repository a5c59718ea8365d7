-- `scan::find_row` meets its contract: no row from h on and before r.
use mathlib.Core.Path.{◌≡◌}
use mathlib.Core.Option.{none}
use Prim.Native.Nat.{◌≤◌}
use lib.ListN.{drop}
use Rattle.lists.specs.First.{first, at_index}
use Rattle.partners.specs.Partners.{holds_at}
use Rattle.same_operations.specs.Same.{record_cells, core_run}
use Rattle.same_operations.specs.Passed.{from_on}
use Rattle.same_operations.proofs.scan.find_row.Given as goal

abbrev pub invariant-loop-r : goal.invariant-loop-r
invariant-loop-r l = (l.h ≤ l.r) × (l.r ≤ l.rows) × (first (at_index (from_on l.h (holds_at (core_run l.core) (record_cells (drop l.from l.file))))) l.r ≡ none)
