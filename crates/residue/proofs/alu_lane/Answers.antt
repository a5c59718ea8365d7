use mathlib.Core.Path.{refl}
use Rattle.lists.proofs.Laws.{filled_next, filled_none, filled-whole}
use Rattle.residue.specs.Residue.{residues}
use Rattle.residue.proofs.alu_lane.Goals as goal

pub loop-z-init : goal.loop-z-init
loop-z-init c = filled_none _ _ _ _

pub loop-z-preserved : goal.loop-z-preserved
unfolding residues
loop-z-preserved c = filled_next _ c.loop-z.invariant c.loop-z-test.true c.alu_residue.ensures

pub returns : goal.returns
returns c = filled-whole c.loop-z.invariant refl c.loop-z-test.false
