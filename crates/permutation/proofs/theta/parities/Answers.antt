use mathlib.Core.Path.{refl}
use Prim.Native.Nat.{◌-◌}
use Rattle.lists.proofs.Laws.{filled_none, filled_next, filled-whole}
use Rattle.fips202.proofs.Steps.{parity-column}
use Rattle.permutation.proofs.theta.parities.Goals as goal

pub loop-x-init : goal.loop-x-init
loop-x-init c = filled_none _ _ _ _

pub loop-x-preserved : goal.loop-x-preserved
loop-x-preserved c =
    filled_next _ c.loop-x.invariant c.loop-x-test.true (parity-column c.args.a c.loop-x.x)

pub returns : goal.returns
returns c = filled-whole c.loop-x.invariant refl c.loop-x-test.false
