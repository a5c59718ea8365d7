-- `answer::check_floor` meets its contract: the floor is none of the powers before the e-th.
use mathlib.Core.Path.{◌≡◌}
use mathlib.Core.Option.{none}
use Prim.Native.Nat.{◌+◌, ◌^◌}
use lib.Dec.{eqb}
use Rattle.lists.specs.First.{first, at_index}
use Rattle.answer.proofs.check_floor.Given as goal

abbrev pub invariant-loop-e : goal.invariant-loop-e
invariant-loop-e l = first (at_index (λ k. eqb l.floor (2 ^ (2 + k)))) l.e ≡ none
