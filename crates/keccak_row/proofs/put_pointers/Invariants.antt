-- `keccak_row::put_pointers` meets its contract: after i turns the first 3 i limbs are stored.
use Prim.Native.Nat.{◌*◌}
use Rattle.keccak.specs.Row.{pointer_limb}
use Rattle.lists.proofs.Laws.{Filled}
use Rattle.keccak_row.proofs.put_pointers.Given as goal

abbrev pub invariant-loop-i : goal.invariant-loop-i
invariant-loop-i l = Filled l.initial.row l.at 75 (pointer_limb l.addr) l.row (3 * l.i)
