-- `month::all_operations` meets its contract: after i turns the sum of the first i counts, at most 89,478,485 each.
use mathlib.Core.Path.{◌≡◌}
use Prim.Native.Nat.{◌≤◌}
use lib.ListN.{length}
use Rattle.lists.specs.Tab.{word}
use Rattle.lists.specs.Sum.{sum_below}
use Rattle.month.proofs.all_operations.Given as goal

abbrev pub invariant-loop-i : goal.invariant-loop-i
invariant-loop-i l = (l.i ≤ length l.counts) × (l.sum ≡ sum_below l.i (word l.counts))
