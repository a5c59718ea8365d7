use native.Mathlib.Omega.{arith}
use Rattle.lists.proofs.Laws.{filled_none, filled-add, filled-all}
use Rattle.keccak_state_tuples.specs.Parts.{sheet_word}
use Rattle.keccak_state_tuples.proofs.Parts.{state-sheet}
use Rattle.keccak_state_tuples.proofs.put_state.Goals as goal

pub loop-x-init : goal.loop-x-init
loop-x-init c = filled_none _ _ _ _

pub loop-x-preserved : goal.loop-x-preserved
loop-x-preserved c =
    let row = c.args.row.now in
    let x = c.loop-x.x in
    filled-add 40 (sheet_word row c.args.base x) c.loop-x.invariant (omega arith) (omega arith) c.put_sheet.ensures
    (λ k h. state-sheet row c.args.base x k h)

pub returns : goal.returns
returns c = filled-all c.loop-x.invariant (omega arith)
