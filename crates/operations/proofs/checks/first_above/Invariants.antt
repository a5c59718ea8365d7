-- `first_above` meets its contract: no word before the i-th is above the limit.
use mathlib.Core.Path.{◌≡◌}
use mathlib.Core.Option.{none}
use Prim.Native.Nat.{◌+◌, ◌*◌, ◌≤◌}
use lib.Dec.{ltb}
use Rattle.lists.specs.First.{first, at_index}
use Rattle.lists.specs.Tab.{word}
use Rattle.keccak.specs.Row.{OP-WORDS}
use Rattle.operations.proofs.checks.first_above.Given as goal

abbrev pub invariant-loop-i : goal.invariant-loop-i
invariant-loop-i l = (l.i ≤ l.n) × (first (at_index (λ j. ltb l.limit (word l.ops (OP-WORDS * j + l.place)))) l.i ≡ none)
