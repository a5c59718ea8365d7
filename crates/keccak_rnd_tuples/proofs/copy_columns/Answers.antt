use native.Mathlib.Omega.{arith}
use Rattle.lists.proofs.Laws.{filled_none, filled-add}
use Rattle.keccak_rnd_tuples.proofs.States.{lanes-of-x}
use Rattle.keccak_rnd_tuples.proofs.copy_columns.Goals as goal

pub loop-x-init : goal.loop-x-init
loop-x-init c = filled_none _ _ _ _

pub loop-x-preserved : goal.loop-x-preserved
loop-x-preserved c = filled-add 40 _ c.loop-x.invariant (omega arith) (omega arith) c.copy_lanes.ensures (lanes-of-x _ _ c.loop-x.x)
