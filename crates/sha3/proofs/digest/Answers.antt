use mathlib.Core.Path.{refl}
use Rattle.lists.proofs.Laws.{filled_none, filled_next, filled-whole}
use Rattle.bits.specs.Bits.{lane_byte}
use Rattle.sha3.proofs.digest.Goals as goal

pub loop-k-init : goal.loop-k-init
loop-k-init c = filled_none _ _ _ _

pub loop-k-preserved : goal.loop-k-preserved
unfolding lane_byte
loop-k-preserved c = filled_next _ c.loop-k.invariant c.loop-k-test.true refl

pub returns : goal.returns
returns c = filled-whole c.loop-k.invariant refl c.loop-k-test.false
