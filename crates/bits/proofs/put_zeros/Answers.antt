use mathlib.Core.Path.{refl}
use Prim.Native.Nat.{◌-◌}
use Rattle.lists.proofs.Laws.{filled_none, filled_more, filled-all}
use Rattle.bits.proofs.put_zeros.Goals as goal

pub loop-k-init : goal.loop-k-init
loop-k-init c = filled_none _ _ _ _

pub loop-k-preserved : goal.loop-k-preserved
loop-k-preserved c = filled_more _ c.loop-k.invariant c.loop-k-test.true refl

pub returns : goal.returns
returns c = filled-all c.loop-k.invariant c.loop-k-test.false
