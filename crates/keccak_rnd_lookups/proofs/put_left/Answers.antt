use mathlib.Core.Path.{sym, ap, ◌∙◌}
use Rattle.lists.proofs.Laws.{filled_none, filled_more}
use Rattle.residue.specs.Residue.{residue, residues}
use Rattle.keccak_rnd_lookups.proofs.put_left.Goals as goal

pub loop-i-init : goal.loop-i-init
loop-i-init c = filled_none _ _ _ _

pub loop-i-preserved : goal.loop-i-preserved
unfolding residues
loop-i-preserved c = filled_more _ c.loop-i.invariant c.loop-i-test.true (c.bytes_residue.ensures ∙ ap residue (sym (c.left_pair-a.ensures.tuple _)))
