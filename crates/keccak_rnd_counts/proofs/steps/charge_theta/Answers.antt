use native.Mathlib.Omega.{arith}
use Rattle.keccak_rnd_counts.specs.Lanes.{theta_adds}
use Rattle.keccak_rnd_counts.proofs.Charging.{parts_none, parts-elements, parts_more, parts_all}
use Rattle.keccak_rnd_counts.proofs.steps.charge_theta.Goals as goal

pub loop-i-init : goal.loop-i-init
loop-i-init c = parts_none c.requires

pub charge_lane-requires : goal.charge_lane-requires
charge_lane-requires c = (parts-elements c.loop-i.invariant, omega arith)

pub loop-i-preserved : goal.loop-i-preserved
unfolding theta_adds
loop-i-preserved c =
    parts_more c.loop-i.invariant c.loop-i-test.true c.charge_lane.ensures

pub returns : goal.returns
returns c = parts_all c.loop-i.invariant c.loop-i-test.false
