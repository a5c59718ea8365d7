use Rattle.lists.proofs.Laws.{filled_none, filled_more, filled-all}
use Rattle.op_list.proofs.RecordAgain.{word_in}
use Rattle.op_list.proofs.record.read_words.Goals as goal

pub loop-j-init : goal.loop-j-init
loop-j-init c = filled_none _ _ _ _

pub loop-j-preserved : goal.loop-j-preserved
loop-j-preserved c =
    let a = c.args in
    filled_more _ c.loop-j.invariant c.loop-j-test.true (word_in a.bytes.now a.from c.loop-j.j c.loop-j-test.true c.word_at.ensures)

pub returns : goal.returns
returns c = filled-all c.loop-j.invariant c.loop-j-test.false
