use Rattle.lists.proofs.Laws.{filled_none, filled_next}
use Rattle.keccak_rnd_terms.proofs.put_rotated.Goals as goal

pub loop-k-init : goal.loop-k-init
loop-k-init c = filled_none _ _ _ _

pub loop-k-preserved : goal.loop-k-preserved
loop-k-preserved c = filled_next _ c.loop-k.invariant c.loop-k-test.true c.rotated_c.ensures
