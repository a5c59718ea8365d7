use native.Mathlib.Omega.{arith}
use Rattle.bitwise.proofs.Charge.{may_add}
use Rattle.keccak_rnd_counts.specs.Lanes.{lane_adds}
use Rattle.keccak_rnd_counts.proofs.Charging.{parts_none, parts-elements, parts_more, parts_all, one-charged}
use Rattle.keccak_rnd_counts.proofs.lanes.charge_lane.Goals as goal

pub loop-z-init : goal.loop-z-init
loop-z-init c = (c.requires.1, parts_none c.requires.0)

pub charge_word-requires : goal.charge_word-requires
charge_word-requires c = may_add _ (parts-elements c.loop-z.invariant.1) (omega arith)

pub loop-z-preserved : goal.loop-z-preserved
loop-z-preserved c =
    let i = c.loop-z.invariant in
    (i.0, parts_more i.1 c.loop-z-test.true (one-charged _ (parts-elements i.1) (omega arith) c.charge_word.ensures))

pub returns : goal.returns
unfolding lane_adds
returns c = parts_all c.loop-z.invariant.1 c.loop-z-test.false
