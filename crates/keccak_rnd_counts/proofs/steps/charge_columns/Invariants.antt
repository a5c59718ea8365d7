-- `keccak_rnd_counts::steps::charge_columns` meets its contract: column by column.
use Rattle.keccak_rnd_counts.specs.Lanes.{column_adds}
use Rattle.keccak_rnd_counts.proofs.Charging.{Parts}
use Rattle.keccak_rnd_counts.proofs.steps.charge_columns.Given as goal

abbrev pub invariant-loop-x : goal.invariant-loop-x
invariant-loop-x l = Parts 5 (column_adds l.s) l.initial.counters l.counters l.x
