use native.Mathlib.Omega.{arith}
use Rattle.tuple.proofs.Words.{listed-none, listed-room, listed_more, listed-all}
use Rattle.keccak_interactions.proofs.Words.{words-length}
use Rattle.keccak_interactions.proofs.put_tuples.Goals as goal

pub loop-i-init : goal.loop-i-init
loop-i-init c = listed-none _ _ _ _

pub put_tuple-at-requires : goal.put_tuple-at-requires
put_tuple-at-requires c =
    let r = c.requires in
    (r.0, c.loop-i-test.true, listed-room c.loop-i.invariant (omega (arith, words-length c.args.nr c.args.syscall c.args.row.now)) c.loop-i-test.true)

pub loop-i-preserved : goal.loop-i-preserved
loop-i-preserved c =
    listed_more c.loop-i.invariant c.loop-i-test.true c.put_tuple-at.ensures.next c.put_tuple-at.ensures.words

pub shape_of-out : goal.shape_of-out
shape_of-out c = c.loop-i.invariant.long

pub returns : goal.returns
returns c = listed-all c.loop-i.invariant c.loop-i-test.false
