use native.Mathlib.Omega.{arith}
use Rattle.lists.proofs.Laws.{filled_none, filled-add}
use Rattle.keccak_rnd_tuples.proofs.States.{lane-of-x}
use Rattle.keccak_rnd_tuples.proofs.copy_lanes.Goals as goal

pub loop-y-init : goal.loop-y-init
loop-y-init c = filled_none _ _ _ _

pub loop-y-preserved : goal.loop-y-preserved
loop-y-preserved c = filled-add 8 _ c.loop-y.invariant (omega arith) (omega arith) c.put_part.ensures (lane-of-x _ _ c.loop-y.y)
