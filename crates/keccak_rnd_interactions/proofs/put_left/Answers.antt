use mathlib.Core.Path.{refl}
use native.Mathlib.Omega.{arith}
use Rattle.byte_tuples.proofs.Stored.{listed_start, listed-one}
use Rattle.keccak_rnd_interactions.proofs.put_left.Goals as goal

pub loop-i-init : goal.loop-i-init
loop-i-init c = listed_start _ _ _ _

pub loop-i-preserved : goal.loop-i-preserved
loop-i-preserved c = listed-one 2 _ c.loop-i.invariant c.loop-i-test.true (c.left_pair-a.ensures.tuple _) refl (omega arith) c.put_bytes.ensures
