-- `parities` meets its contract: the parities are stored one after the other.
use Prim.Native.Nat.{◌-◌}
use Rattle.lists.proofs.Laws.{Filled}
use Rattle.fips202.specs.Lanes.{parity_l}
use Rattle.permutation.proofs.theta.parities.Given as goal

abbrev pub invariant-loop-x : goal.invariant-loop-x
invariant-loop-x l = Filled l.initial.c 0 5 (parity_l l.a) l.c l.x

abbrev pub decreases-loop-x : goal.decreases-loop-x
decreases-loop-x l = 5 - l.x
