-- `block_lane` meets its contract.
use mathlib.Core.Path.{◌∙◌}
use Rattle.sha3.proofs.Padding.{block-below, block-past}
use Rattle.sha3.proofs.block_lane.Goals as goal

pub returns-then-j : goal.returns-then-j
returns-then-j c =
    let a = c.args in
    c.lane_at.ensures ∙ block-below a.message.now a.i a.j c.if-j.true

pub returns : goal.returns
returns c =
    let a = c.args in
    block-past a.message.now a.i a.j c.if-j.false
