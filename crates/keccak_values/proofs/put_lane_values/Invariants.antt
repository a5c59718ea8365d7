-- `keccak_values::put_lane_values` meets its contract: after i turns the first 2 i values are stored.
use Prim.Native.Nat.{◌*◌}
use Rattle.lists.proofs.Laws.{Filled}
use Rattle.keccak.specs.Values.{core_value}
use Rattle.keccak_values.proofs.put_lane_values.Given as goal

abbrev pub invariant-loop-i : goal.invariant-loop-i
invariant-loop-i l = Filled l.initial.out 0 50 (core_value l.row) l.out (2 * l.i)
