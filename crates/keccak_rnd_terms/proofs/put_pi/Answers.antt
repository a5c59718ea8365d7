use native.Mathlib.Omega.{arith}
use Rattle.keccak_rnd_terms.proofs.Terms.{pi-lane}
use Rattle.lists.proofs.Laws.{filled-block, filled_none}
use Rattle.keccak_rnd_terms.proofs.put_pi.Goals as goal

pub loop-l-init : goal.loop-l-init
loop-l-init c = filled_none _ _ _ _

pub loop-l-preserved : goal.loop-l-preserved
loop-l-preserved c = filled-block 8 c.loop-l.l _ c.loop-l.invariant (omega arith) c.put_pi_lane.ensures (pi-lane _ c.loop-l.l c.pi_source-source.ensures)
