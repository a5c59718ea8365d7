-- `keccak_rnd_values::groups::put_rho_lanes` meets its contract: after y turns the first 4y values are stored.
use Prim.Native.Nat.{◌*◌, ◌/◌, ◌%◌}
use Rattle.lists.proofs.Laws.{Filled}
use Rattle.keccak_rnd.specs.Values.{rho_value}
use Rattle.keccak_rnd_values.proofs.groups.put_rho_lanes.Given as goal

abbrev pub invariant-loop-y : goal.invariant-loop-y
invariant-loop-y l = Filled l.initial.out l.at 20 (λ i. rho_value l.row l.x (i / 4) (i % 4)) l.out (4 * l.y)
