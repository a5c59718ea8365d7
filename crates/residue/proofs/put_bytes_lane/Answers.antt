use Rattle.lists.proofs.Laws.{filled_none, filled_more, filled-all}
use Rattle.residue.specs.Residue.{residues}
use Rattle.residue.proofs.put_bytes_lane.Goals as goal

pub loop-z-init : goal.loop-z-init
loop-z-init c = filled_none _ _ _ _

pub loop-z-preserved : goal.loop-z-preserved
unfolding residues
loop-z-preserved c = filled_more _ c.loop-z.invariant c.loop-z-test.true c.bytes_residue.ensures

pub returns : goal.returns
returns c = filled-all c.loop-z.invariant c.loop-z-test.false
