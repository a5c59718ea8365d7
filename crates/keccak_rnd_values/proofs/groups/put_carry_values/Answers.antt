use Rattle.lists.proofs.Laws.{filled_none, filled_next, filled-all}
use Rattle.keccak_rnd_values.proofs.groups.put_carry_values.Goals as goal

pub loop-i-init : goal.loop-i-init
loop-i-init c = filled_none _ _ _ _

pub loop-i-preserved : goal.loop-i-preserved
loop-i-preserved c = filled_next _ c.loop-i.invariant c.loop-i-test.true c.carry_value-value.ensures

pub returns : goal.returns
returns c = filled-all c.loop-i.invariant c.loop-i-test.false
