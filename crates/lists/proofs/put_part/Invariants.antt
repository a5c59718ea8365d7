-- `lists::put_part` meets its contract: after k turns the first k are stored.
use Prim.Native.Nat.{◌+◌, ◌-◌}
use Rattle.lists.specs.Tab.{word}
use Rattle.lists.proofs.Laws.{Filled}
use Rattle.lists.proofs.put_part.Given as goal

abbrev pub invariant-loop-k : goal.invariant-loop-k
invariant-loop-k l = Filled l.initial.row l.at l.n (λ j. word l.words (l.from + j)) l.row l.k
