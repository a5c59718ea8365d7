-- `lists::same_words` meets its contract: no word before k differs.
use mathlib.Core.Path.{◌≡◌}
use mathlib.Core.Option.{none}
use Prim.Native.Nat.{◌≤◌, ◌-◌}
use Rattle.lists.specs.First.{first, at_index}
use Rattle.lists.specs.Select.{words_differ}
use Rattle.lists.proofs.same_words.Given as goal

abbrev pub invariant-loop-k : goal.invariant-loop-k
invariant-loop-k l = (l.k ≤ l.n) × (first (at_index (words_differ l.a l.i l.b l.j)) l.k ≡ none)

abbrev pub decreases-loop-k : goal.decreases-loop-k
decreases-loop-k l = l.n - l.k
