-- `bits::put_zeros` meets its contract: after k turns k zeros are stored.
use Prim.Native.Nat.{◌-◌}
use Rattle.lists.proofs.Laws.{Filled}
use Rattle.bits.proofs.put_zeros.Given as goal

abbrev pub invariant-loop-k : goal.invariant-loop-k
invariant-loop-k l = Filled l.initial.row l.at l.n (λ j. 0) l.row l.k
