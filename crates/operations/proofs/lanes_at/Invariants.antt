-- `lanes_at` meets its contract: after k turns the first k lanes are read.
use Prim.Native.Nat.{◌+◌}
use lib.ListN.{get_or}
use Rattle.lists.proofs.Laws.{Filled}
use Rattle.operations.proofs.lanes_at.Given as goal

abbrev pub invariant-loop-k : goal.invariant-loop-k
invariant-loop-k l = Filled l.initial.lanes 0 25 (λ j. get_or l.ops (l.at + j) 0) l.lanes l.k
