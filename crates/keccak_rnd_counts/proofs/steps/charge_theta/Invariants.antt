-- `keccak_rnd_counts::steps::charge_theta` meets its contract: lane by lane.
use Rattle.keccak_rnd_counts.specs.Lanes.{theta_adds}
use Rattle.keccak_rnd_counts.proofs.Charging.{Parts}
use Rattle.keccak_rnd_counts.proofs.steps.charge_theta.Given as goal

abbrev pub invariant-loop-i : goal.invariant-loop-i
invariant-loop-i l = Parts 25 (theta_adds l.s l.d) l.initial.counters l.counters l.i
