use native.Mathlib.Omega.{arith}
use Rattle.lists.proofs.Laws.{filled_none, filled_more, filled-all}
use Rattle.keccak_rnd_values.proofs.groups.put_theta_column.Goals as goal

pub loop-hw-init : goal.loop-hw-init
loop-hw-init c = filled_none _ _ _ _

pub theta_value-value-requires : goal.theta_value-value-requires
theta_value-value-requires c = (c.requires.0, c.requires.1, omega arith)

pub loop-hw-preserved : goal.loop-hw-preserved
loop-hw-preserved c = filled_more _ c.loop-hw.invariant c.loop-hw-test.true c.theta_value-value.ensures

pub returns : goal.returns
returns c = filled-all c.loop-hw.invariant c.loop-hw-test.false
