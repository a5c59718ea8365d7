use Prim.Native.Nat.{◌+◌, ◌*◌}
use native.Mathlib.Omega.{arith}
use Rattle.lists.proofs.Laws.{filled_none, filled-add, filled-all}
use Rattle.lists.specs.Tab.{word}
use Rattle.keccak_state_tuples.proofs.Parts.{sheet-lane}
use Rattle.keccak_state_tuples.proofs.put_sheet.Goals as goal

pub loop-y-init : goal.loop-y-init
loop-y-init c = filled_none _ _ _ _

pub loop-y-preserved : goal.loop-y-preserved
loop-y-preserved c =
    let row = c.args.row.now in
    let y = c.loop-y.y in
    filled-add 8 (λ k. word row (c.args.base + (c.args.x + 5 * y) * 8 + k)) c.loop-y.invariant (omega arith) (omega arith) c.put_part.ensures
    (λ k h. sheet-lane row c.args.base c.args.x y k h)

pub returns : goal.returns
returns c = filled-all c.loop-y.invariant (omega arith)
