-- `keccak_rnd_values::groups::put_rho_lane` meets its contract: after hw turns the first hw values are stored.
use mathlib.Core.Path.{◌≡◌}
use Rattle.lists.proofs.Laws.{Filled}
use Rattle.keccak_rnd.specs.Row.{rnc}
use Rattle.keccak_rnd.specs.Values.{rho_value}
use Rattle.keccak_rnd_values.proofs.groups.put_rho_lane.Given as goal

abbrev pub invariant-loop-hw : goal.invariant-loop-hw
invariant-loop-hw l = (l.power ≡ rnc l.x l.y) × Filled l.initial.out l.at 4 (rho_value l.row l.x l.y) l.out l.hw
