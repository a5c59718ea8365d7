use mathlib.Core.Path.{refl}
use native.Mathlib.Omega.{arith}
use Rattle.keccak.specs.Row.{core_pad}
use Rattle.lists.proofs.Laws.{filled_none, filled_row_lem, filled-rows}
use Rattle.keccak.proofs.Cells.{length-pad}
use Rattle.keccak_trace.proofs.put_pad_rows.Goals as goal

pub loop-i-init : goal.loop-i-init
loop-i-init c = (omega arith, filled_none _ _ _ _)

pub loop-i-preserved : goal.loop-i-preserved
loop-i-preserved c =
    let i = c.loop-i.i in
    (omega arith, filled_row_lem _ 486 (λ j. core_pad) i c.loop-i.invariant.1 c.loop-i-test.true length-pad refl c.put_pad_row.ensures)

pub returns : goal.returns
returns c = filled-rows _ 486 _ c.loop-i.i c.loop-i.invariant.1 c.loop-i-test.false
