use mathlib.Core.Path.{refl}
use Prim.Native.Nat.{◌-◌}
use Rattle.lists.proofs.Laws.{filled_none, filled_more, filled-all}
use Rattle.bits.proofs.put_dword_bl.Goals as goal

pub loop-b-init : goal.loop-b-init
loop-b-init c = filled_none _ _ _ _

pub loop-b-preserved : goal.loop-b-preserved
loop-b-preserved c = filled_more _ c.loop-b.invariant c.loop-b-test.true refl

pub returns : goal.returns
returns c = filled-all c.loop-b.invariant c.loop-b-test.false
