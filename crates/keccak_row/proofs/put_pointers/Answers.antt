use Prim.Native.Nat.{◌+◌, ◌*◌}
use native.Mathlib.Omega.{arith}
use Rattle.bits.specs.Bits.{limb_at}
use Rattle.lists.proofs.Laws.{filled_none, filled-add, filled-all}
use Rattle.keccak.proofs.Cells.{pointer-limb}
use Rattle.keccak_row.proofs.put_pointers.Goals as goal

pub loop-i-init : goal.loop-i-init
loop-i-init c = filled_none _ _ _ _

pub loop-i-preserved : goal.loop-i-preserved
loop-i-preserved c =
    let addr = c.args.addr in
    let i = c.loop-i.i in
    filled-add 3 (limb_at (addr + 8 * i)) c.loop-i.invariant (omega arith) (omega arith) c.put_dword_whh.ensures (λ j b. pointer-limb addr i j b)

pub returns : goal.returns
returns c = filled-all c.loop-i.invariant (omega arith)
