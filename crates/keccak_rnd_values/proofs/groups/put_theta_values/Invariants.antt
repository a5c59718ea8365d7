-- `keccak_rnd_values::groups::put_theta_values` meets its contract: after x turns the first 4x values are stored.
use Prim.Native.Nat.{◌*◌, ◌/◌, ◌%◌}
use Rattle.lists.proofs.Laws.{Filled}
use Rattle.keccak_rnd.specs.Values.{theta_value}
use Rattle.keccak_rnd_values.proofs.groups.put_theta_values.Given as goal

abbrev pub invariant-loop-x : goal.invariant-loop-x
invariant-loop-x l = Filled l.initial.out 20 20 (λ i. theta_value l.row (i / 4) (i % 4)) l.out (4 * l.x)
