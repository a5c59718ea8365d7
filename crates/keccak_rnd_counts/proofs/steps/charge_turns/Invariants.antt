-- `keccak_rnd_counts::steps::charge_turns` meets its contract: column by column.
use Rattle.keccak_rnd_counts.specs.Lanes.{turn_adds}
use Rattle.keccak_rnd_counts.proofs.Charging.{Parts}
use Rattle.keccak_rnd_counts.proofs.steps.charge_turns.Given as goal

abbrev pub invariant-loop-x : goal.invariant-loop-x
invariant-loop-x l = Parts 5 (turn_adds l.c) l.initial.counters l.counters l.x
