-- `month::all_rows` meets its contract: after i turns the rows of the first i files, at most 2^31 each.
use mathlib.Core.Path.{◌≡◌}
use Prim.Native.Nat.{◌≤◌}
use lib.ListN.{length}
use Rattle.lists.specs.Sum.{sum_below}
use Rattle.month.specs.Month.{total_at}
use Rattle.month.proofs.all_rows.Given as goal

abbrev pub invariant-loop-i : goal.invariant-loop-i
invariant-loop-i l = (l.i ≤ length l.counts) × (l.sum ≡ sum_below l.i (total_at l.nr l.floor l.counts))
