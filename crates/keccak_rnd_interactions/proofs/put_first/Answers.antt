use native.Mathlib.Omega.{arith}
use Rattle.tuple.proofs.Words.{listed-none, listed-room, listed_more}
use Rattle.keccak_rnd_interactions.proofs.Words.{first-length}
use Rattle.keccak_rnd_interactions.proofs.put_first.Goals as goal

pub loop-i-init : goal.loop-i-init
loop-i-init c = listed-none _ _ _ _

pub put_tuple-at-requires : goal.put_tuple-at-requires
put_tuple-at-requires c =
    let r = c.requires in
    (r.0, omega arith, listed-room c.loop-i.invariant (omega (arith, first-length c.args.row.now)) c.loop-i-test.true)

pub loop-i-preserved : goal.loop-i-preserved
loop-i-preserved c =
    listed_more c.loop-i.invariant c.loop-i-test.true c.put_tuple-at.ensures.next c.put_tuple-at.ensures.words
