-- `keccak_rnd_counts::steps::charge_chi` meets its contract: lane by lane.
use Rattle.keccak_rnd_counts.specs.Lanes.{chi_adds}
use Rattle.keccak_rnd_counts.proofs.Charging.{Parts}
use Rattle.keccak_rnd_counts.proofs.steps.charge_chi.Given as goal

abbrev pub invariant-loop-i : goal.invariant-loop-i
invariant-loop-i l = Parts 25 (chi_adds l.u) l.initial.counters l.counters l.i
