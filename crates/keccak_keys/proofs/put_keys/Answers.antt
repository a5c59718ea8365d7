use Prim.Native.Nat.{◌+◌, ◌*◌}
use native.Mathlib.Omega.{arith}
use Rattle.is_wh.specs.Key.{of-dword}
use Rattle.keccak.specs.Row.{key_word}
use Rattle.lists.proofs.Laws.{filled_none, filled-add, filled-all}
use Rattle.keccak.proofs.Keys.{pointer-key}
use Rattle.keccak_keys.proofs.put_keys.Goals as goal

pub loop-i-init : goal.loop-i-init
loop-i-init c = filled_none _ _ _ _

pub loop-i-preserved : goal.loop-i-preserved
loop-i-preserved c =
    let addr = c.args.op.state_addr in
    let i = c.loop-i.i in
    filled-add 2 (key_word (of-dword (addr + 8 * i))) c.loop-i.invariant (omega arith) (omega arith) c.put_key.ensures (λ j b. pointer-key addr i j b)

pub returns : goal.returns
returns c = filled-all c.loop-i.invariant (omega arith)
