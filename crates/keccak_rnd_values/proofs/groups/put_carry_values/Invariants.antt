-- `keccak_rnd_values::groups::put_carry_values` meets its contract: after i turns the first i values are stored.
use Prim.Native.Nat.{◌/◌, ◌%◌}
use Rattle.lists.proofs.Laws.{Filled}
use Rattle.keccak_rnd.specs.Values.{carry_value}
use Rattle.keccak_rnd_values.proofs.groups.put_carry_values.Given as goal

abbrev pub invariant-loop-i : goal.invariant-loop-i
invariant-loop-i l = Filled l.initial.out 0 20 (λ i. carry_value l.row (i / 4) (i % 4)) l.out l.i
