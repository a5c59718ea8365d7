-- `same_operations::first_record` meets its contract: no record before i is alone.
use mathlib.Core.Path.{◌≡◌}
use mathlib.Core.Option.{none}
use Prim.Native.Nat.{◌≤◌}
use Rattle.lists.specs.First.{first, at_index}
use Rattle.partners.specs.Partners.{alone}
use Rattle.same_operations.specs.Same.{file_run, core_run}
use Rattle.same_operations.specs.Passed.{Stands, Ahead}
use Rattle.same_operations.proofs.first_record.Given as goal

abbrev pub invariant-loop-i : goal.invariant-loop-i
invariant-loop-i l =
    (l.i ≤ l.n) × Stands l.file l.i l.from × Ahead l.core l.file l.p l.i l.top l.next × (first (at_index (alone (file_run l.file) (core_run l.core))) l.i ≡ none)
