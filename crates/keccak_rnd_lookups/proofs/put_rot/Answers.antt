use native.Mathlib.Omega.{arith}
use Rattle.lists.proofs.Laws.{filled_none}
use Rattle.residue.proofs.Stored.{filled-lane}
use Rattle.keccak_rnd_lookups.proofs.put_rot.Goals as goal

pub loop-l-init : goal.loop-l-init
loop-l-init c = filled_none _ _ _ _

pub loop-l-preserved : goal.loop-l-preserved
loop-l-preserved c = filled-lane _ _ c.loop-l.l c.loop-l.invariant (omega arith) c.put_bytes_lane.ensures (c.rot_lane-a.ensures.tuples _)
