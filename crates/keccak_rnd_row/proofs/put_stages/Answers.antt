use Rattle.keccak_rnd.specs.Parts.{stage_cell}
use Rattle.lists.proofs.Laws.{filled_none, filled_more, filled-all}
use Rattle.keccak_rnd_row.proofs.put_stages.Goals as goal

pub loop-k-init : goal.loop-k-init
loop-k-init c = filled_none _ _ _ _

pub loop-k-preserved : goal.loop-k-preserved
unfolding stage_cell
loop-k-preserved c = filled_more _ c.loop-k.invariant c.loop-k-test.true c.word_of.ensures

pub returns : goal.returns
returns c = filled-all c.loop-k.invariant c.loop-k-test.false
