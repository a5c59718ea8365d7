-- `field::elements::joined` meets its contract: no word read so far is above the OR of them all.
use mathlib.Core.Path.{◌≡◌}
use mathlib.Core.Option.{none}
use Prim.Native.Nat.{◌≤◌, ◌<◌, ◌-◌}
use Rattle.lists.specs.First.{first_at}
use Rattle.field.specs.Field.{p}
use Rattle.field.specs.Elements.{not_element}
use Rattle.field.proofs.elements.joined.Given as goal

abbrev pub invariant-loop-k : goal.invariant-loop-k
invariant-loop-k l = (l.k ≤ l.n) × (l.all < p → first_at (not_element l.words) l.k ≡ none)
