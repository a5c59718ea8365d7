-- `keccak_keys::put_keys` meets its contract: after i turns the first i keys are stored.
use Prim.Native.Nat.{◌*◌}
use Rattle.keccak.specs.Row.{pointer_key}
use Rattle.lists.proofs.Laws.{Filled}
use Rattle.keccak_keys.proofs.put_keys.Given as goal

abbrev pub invariant-loop-i : goal.invariant-loop-i
invariant-loop-i l = Filled l.initial.out l.at 50 (pointer_key l.addr) l.out (2 * l.i)
