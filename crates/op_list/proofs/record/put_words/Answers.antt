use mathlib.Core.Path.{refl}
use Rattle.lists.proofs.Laws.{filled_none, filled_more, filled-all}
use Rattle.op_list.specs.Record.{word_byte}
use Rattle.op_list.proofs.record.put_words.Goals as goal

pub loop-k-init : goal.loop-k-init
loop-k-init c = filled_none _ _ _ _

pub loop-k-preserved : goal.loop-k-preserved
unfolding word_byte
loop-k-preserved c = filled_more _ c.loop-k.invariant c.loop-k-test.true refl

pub returns : goal.returns
returns c = filled-all c.loop-k.invariant c.loop-k-test.false
