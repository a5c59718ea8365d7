use native.Mathlib.Omega.{arith}
use Rattle.keccak_rnd_counts.specs.Lanes.{chi_adds}
use Rattle.keccak_rnd_counts.proofs.Charging.{parts_none, parts-elements, parts_more, parts_all, still-elements, both-charged}
use Rattle.keccak_rnd_counts.proofs.steps.charge_chi.Goals as goal

pub loop-i-init : goal.loop-i-init
loop-i-init c = parts_none c.requires

pub charge_lane-requires : goal.charge_lane-requires
charge_lane-requires c = (parts-elements c.loop-i.invariant, omega arith)

pub charge_lane-requires-in-loop-i : goal.charge_lane-requires-in-loop-i
charge_lane-requires-in-loop-i c =
    (still-elements _ (parts-elements c.loop-i.invariant) c.charge_lane.ensures, omega arith)

pub loop-i-preserved : goal.loop-i-preserved
unfolding chi_adds
loop-i-preserved c =
    let i = c.loop-i.invariant in
    parts_more i c.loop-i-test.true (both-charged _ _ (parts-elements i) c.charge_lane.ensures c.charge_lane-in-loop-i.ensures)

pub returns : goal.returns
returns c = parts_all c.loop-i.invariant c.loop-i-test.false
