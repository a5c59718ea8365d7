-- `field::elements::scanned` meets its contract: no word before k is p or more.
use mathlib.Core.Path.{◌≡◌}
use mathlib.Core.Option.{none}
use Prim.Native.Nat.{◌≤◌, ◌-◌}
use Rattle.lists.specs.First.{first, at_index}
use Rattle.field.specs.Elements.{not_element}
use Rattle.field.proofs.elements.scanned.Given as goal

abbrev pub invariant-loop-k : goal.invariant-loop-k
invariant-loop-k l = (l.k ≤ l.n) × (first (at_index (not_element l.words)) l.k ≡ none)
