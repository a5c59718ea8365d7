use Rattle.residue.proofs.Or.{or-start, or-more, or-end}
use Rattle.judge_rows.proofs.or_of.Goals as goal

pub loop-i-init : goal.loop-i-init
loop-i-init c = or-start _

pub loop-i-preserved : goal.loop-i-preserved
loop-i-preserved c = or-more _ _ _ c.loop-i.invariant

pub returns : goal.returns
returns c = or-end _ _ _ _ c.loop-i.auto.i-end c.loop-i-test.false c.loop-i.invariant
