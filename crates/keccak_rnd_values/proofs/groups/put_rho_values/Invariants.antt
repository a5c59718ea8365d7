-- `keccak_rnd_values::groups::put_rho_values` meets its contract: after x turns the first 20x values are stored.
use Prim.Native.Nat.{◌*◌, ◌/◌, ◌%◌}
use Rattle.lists.proofs.Laws.{Filled}
use Rattle.keccak_rnd.specs.Values.{rho_value}
use Rattle.keccak_rnd_values.proofs.groups.put_rho_values.Given as goal

abbrev pub invariant-loop-x : goal.invariant-loop-x
invariant-loop-x l = Filled l.initial.out 40 100 (λ i. rho_value l.row (i / 20) (i / 4 % 5) (i % 4)) l.out (20 * l.x)
