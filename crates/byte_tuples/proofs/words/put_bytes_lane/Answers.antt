use mathlib.Core.Path.{refl}
use native.Mathlib.Omega.{arith}
use Rattle.tuple.proofs.Words.{listed-all}
use Rattle.byte_tuples.proofs.Stored.{listed_start, listed-one}
use Rattle.byte_tuples.proofs.words.put_bytes_lane.Goals as goal

pub loop-z-init : goal.loop-z-init
loop-z-init c = listed_start _ _ _ _

pub loop-z-preserved : goal.loop-z-preserved
loop-z-preserved c =
    listed-one 2 _ c.loop-z.invariant c.loop-z-test.true refl refl (omega arith) c.put_bytes.ensures

pub returns : goal.returns
returns c = listed-all c.loop-z.invariant c.loop-z-test.false
