-- `residue::is_wh_residue` meets its contract: a tuple that is not sent, and one that is.
use Rattle.residue.proofs.Residue.{idle, sent}
use Rattle.residue.specs.Residue.{residue_on, is_wh_residue}
use Rattle.residue.proofs.is_wh_residue.Goals as goal

pub returns-then-multiplicity-eq0 : goal.returns-then-multiplicity-eq0
returns-then-multiplicity-eq0 c = idle _ c.if-multiplicity-eq0.true

pub returns : goal.returns
unfolding residue_on is_wh_residue
returns c = sent _ c.if-multiplicity-eq0.false
