-- `compare::same_bytes` meets its contract: no byte before k differs.
use mathlib.Core.Path.{◌≡◌}
use mathlib.Core.Option.{none}
use Prim.Native.Nat.{◌≤◌}
use Rattle.lists.specs.First.{first, at_index}
use Rattle.lists.specs.Select.{words_differ}
use Rattle.same_operations.proofs.compare.same_bytes.Given as goal

abbrev pub invariant-loop-k : goal.invariant-loop-k
invariant-loop-k l = (l.k ≤ l.n) × (first (at_index (words_differ l.bytes l.a l.bytes l.b)) l.k ≡ none)
