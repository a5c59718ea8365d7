use mathlib.Core.Path.{refl, ap}
use Prim.Native.Nat.{◌+◌, ◌-◌, ◌%◌}
use lib.Bits.{bit_xor}
use lib.ListN.{get_or}
use Rattle.lists.proofs.Laws.{filled_none, filled_next, filled-whole}
use Rattle.fips202.specs.Lanes.{theta_dl}
use Rattle.permutation.proofs.theta.theta_d.Goals as goal

pub loop-x-init : goal.loop-x-init
loop-x-init c = filled_none _ _ _ _

pub loop-x-preserved : goal.loop-x-preserved
unfolding theta_dl
loop-x-preserved c =
    filled_next _ c.loop-x.invariant c.loop-x-test.true
    (ap (bit_xor (get_or c.args.c ((c.loop-x.x + 4) % 5) 0)) c.rotate_left.ensures)

pub returns : goal.returns
returns c = filled-whole c.loop-x.invariant refl c.loop-x-test.false
