use native.Mathlib.Omega.{arith}
use Rattle.keccak_rnd_counts.proofs.Charging.{parts_none, parts-elements, parts_more, parts_all}
use Rattle.keccak_rnd_counts.proofs.steps.charge_turns.Goals as goal

pub loop-x-init : goal.loop-x-init
loop-x-init c = parts_none c.requires

pub charge_turn-requires : goal.charge_turn-requires
charge_turn-requires c = (parts-elements c.loop-x.invariant, omega arith)

pub loop-x-preserved : goal.loop-x-preserved
loop-x-preserved c =
    parts_more c.loop-x.invariant c.loop-x-test.true c.charge_turn.ensures

pub returns : goal.returns
returns c = parts_all c.loop-x.invariant c.loop-x-test.false
