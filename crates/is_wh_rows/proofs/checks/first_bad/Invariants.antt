-- `first_bad` meets its contract: no word before k is refused.
use mathlib.Core.Option.{none}
use mathlib.Core.Path.{◌≡◌}
use Prim.Native.Nat.{◌≤◌}
use lib.ListN.{length}
use Rattle.lists.specs.First.{first, at_index}
use Rattle.is_wh_rows.specs.Lists.{bad_at}
use Rattle.is_wh_rows.proofs.checks.first_bad.Given as goal

abbrev pub invariant-loop-k : goal.invariant-loop-k
invariant-loop-k l = (l.k ≤ length l.list) × (first (at_index (bad_at l.size l.list)) l.k ≡ none)
