use mathlib.Core.Path.{refl}
use native.Mathlib.Omega.{arith}
use Rattle.byte_tuples.proofs.Stored.{listed_start}
use Rattle.tuple.proofs.Words.{listed-lane}
use Rattle.keccak_rnd_interactions.proofs.put_rot.Goals as goal

pub loop-l-init : goal.loop-l-init
loop-l-init c = listed_start _ _ _ _

pub loop-l-preserved : goal.loop-l-preserved
loop-l-preserved c = listed-lane c.loop-l.invariant 8 2 _ (omega arith) (c.rot_lane-a.ensures.tuples _) (λ k. refl) (omega arith) (omega arith) c.put_bytes_lane.ensures
