use mathlib.Core.Path.{refl, ap}
use native.Mathlib.Omega.{arith}
use lib.Bits.{bit_xor}
use lib.ListN.{get_or}
use Rattle.lists.proofs.Laws.{filled_none, filled_next, filled-whole}
use Rattle.sha3.specs.Sha3.{added}
use Rattle.sha3.proofs.add_block.Goals as goal

pub loop-j-init : goal.loop-j-init
loop-j-init c = (omega arith, filled_none _ _ _ _)

pub loop-j-preserved : goal.loop-j-preserved
loop-j-preserved c =
    let s = c.args.state.lanes in
    (c.loop-j.invariant.0, filled_next _ c.loop-j.invariant.1 c.loop-j-test.true (ap (bit_xor (get_or s c.loop-j.j 0)) c.block_lane.ensures))

pub returns : goal.returns
unfolding added
returns c = filled-whole c.loop-j.invariant.1 refl c.loop-j-test.false
