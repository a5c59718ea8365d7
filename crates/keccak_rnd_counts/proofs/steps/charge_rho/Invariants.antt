-- `keccak_rnd_counts::steps::charge_rho` meets its contract: lane by lane.
use Rattle.keccak_rnd_counts.specs.Lanes.{rho_adds}
use Rattle.keccak_rnd_counts.proofs.Charging.{Parts}
use Rattle.keccak_rnd_counts.proofs.steps.charge_rho.Given as goal

abbrev pub invariant-loop-i : goal.invariant-loop-i
invariant-loop-i l = Parts 25 (rho_adds l.t) l.initial.counters l.counters l.i
