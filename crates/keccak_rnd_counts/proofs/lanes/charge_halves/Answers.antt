use native.Mathlib.Omega.{arith}
use Rattle.bitwise.proofs.Charge.{may_add}
use Rattle.keccak_rnd_counts.specs.Lanes.{halves_add}
use Rattle.keccak_rnd_counts.proofs.Charging.{parts_none, parts-elements, parts_more, parts_all, one-charged}
use Rattle.keccak_rnd_counts.proofs.lanes.charge_halves.Goals as goal

pub loop-h-init : goal.loop-h-init
loop-h-init c = parts_none c.requires

pub charge_word-requires : goal.charge_word-requires
charge_word-requires c = may_add _ (parts-elements c.loop-h.invariant) (omega arith)

pub loop-h-preserved : goal.loop-h-preserved
loop-h-preserved c =
    let i = c.loop-h.invariant in
    parts_more i c.loop-h-test.true (one-charged _ (parts-elements i) (omega arith) c.charge_word.ensures)

pub returns : goal.returns
unfolding halves_add
returns c = parts_all c.loop-h.invariant c.loop-h-test.false
