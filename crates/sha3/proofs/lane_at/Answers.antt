use native.Mathlib.Omega.{arith}
use Rattle.sha3.proofs.Padding.{packed_none, packed-small, packed_more, packed_all}
use Rattle.sha3.proofs.lane_at.Goals as goal

pub loop-n-init : goal.loop-n-init
loop-n-init c = packed_none _

pub overflow_mul-lane : goal.overflow_mul-lane
overflow_mul-lane c = omega (arith, packed-small c.loop-n.invariant c.loop-n-test.true)

pub overflow_add-lane : goal.overflow_add-lane
overflow_add-lane c = omega (arith, packed-small c.loop-n.invariant c.loop-n-test.true, c.padded_byte.ensures.small)

pub loop-n-preserved : goal.loop-n-preserved
loop-n-preserved c =
    packed_more _ c.loop-n.invariant c.loop-n-test.true c.padded_byte.ensures.byte c.padded_byte.ensures.small

pub returns : goal.returns
returns c = packed_all c.loop-n.invariant c.loop-n-test.false
