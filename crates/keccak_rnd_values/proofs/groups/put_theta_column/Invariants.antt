-- `keccak_rnd_values::groups::put_theta_column` meets its contract: after hw turns the first hw values are stored.
use Rattle.lists.proofs.Laws.{Filled}
use Rattle.keccak_rnd.specs.Values.{theta_value}
use Rattle.keccak_rnd_values.proofs.groups.put_theta_column.Given as goal

abbrev pub invariant-loop-hw : goal.invariant-loop-hw
invariant-loop-hw l = Filled l.initial.out l.at 4 (theta_value l.row l.x) l.out l.hw
