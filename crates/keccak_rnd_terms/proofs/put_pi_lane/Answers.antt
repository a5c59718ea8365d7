use Rattle.lists.proofs.Laws.{filled_none, filled_more}
use Rattle.keccak_rnd_terms.proofs.put_pi_lane.Goals as goal

pub loop-z-init : goal.loop-z-init
loop-z-init c = filled_none _ _ _ _

pub loop-z-preserved : goal.loop-z-preserved
loop-z-preserved c = filled_more _ c.loop-z.invariant c.loop-z-test.true c.pi_byte.ensures
