-- `theta_d` meets its contract: the five lanes are stored one after the other.
use Prim.Native.Nat.{◌-◌}
use Rattle.lists.proofs.Laws.{Filled}
use Rattle.fips202.specs.Lanes.{theta_dl}
use Rattle.permutation.proofs.theta.theta_d.Given as goal

abbrev pub invariant-loop-x : goal.invariant-loop-x
invariant-loop-x l = Filled l.initial.d 0 5 (theta_dl l.c) l.d l.x

abbrev pub decreases-loop-x : goal.decreases-loop-x
decreases-loop-x l = 5 - l.x
