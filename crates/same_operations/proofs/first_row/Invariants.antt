-- `same_operations::first_row` meets its contract: no row before r is alone.
use mathlib.Core.Path.{◌≡◌}
use mathlib.Core.Option.{none}
use Prim.Native.Nat.{◌≤◌}
use Rattle.lists.specs.First.{first, at_index}
use Rattle.partners.specs.Partners.{alone}
use Rattle.same_operations.specs.Same.{file_run, core_run}
use Rattle.same_operations.proofs.first_row.Given as goal

abbrev pub invariant-loop-r : goal.invariant-loop-r
invariant-loop-r l = (l.p.rows ≤ l.r) × (l.r ≤ l.rows) × (first (at_index (alone (core_run l.core) (file_run l.file))) l.r ≡ none)
