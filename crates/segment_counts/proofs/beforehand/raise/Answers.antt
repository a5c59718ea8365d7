use native.Mathlib.Omega.{arith}
use Rattle.lists.proofs.Laws.{filled_none, filled-all}
use Rattle.segment_counts.proofs.Looking.{raise-turn}
use Rattle.segment_counts.proofs.beforehand.raise.Goals as goal

pub loop-k-init : goal.loop-k-init
loop-k-init c = filled_none _ _ _ _

pub loop-k-preserved : goal.loop-k-preserved
loop-k-preserved c =
    raise-turn c.args.most.now c.args.counters.now c.args.at c.loop-k.invariant c.loop-k-test.true (omega arith) c.larger_of.ensures

pub returns : goal.returns
returns c = filled-all c.loop-k.invariant c.loop-k-test.false
