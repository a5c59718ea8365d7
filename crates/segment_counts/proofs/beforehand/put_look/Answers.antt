use Rattle.lists.proofs.Laws.{filled_none, filled_next, filled-all}
use Rattle.segment_counts.proofs.beforehand.put_look.Goals as goal

pub loop-j-init : goal.loop-j-init
loop-j-init c = filled_none _ _ _ _

pub loop-j-preserved : goal.loop-j-preserved
loop-j-preserved c = filled_next _ c.loop-j.invariant c.loop-j-test.true c.look_word.ensures

pub returns : goal.returns
returns c = filled-all c.loop-j.invariant c.loop-j-test.false
