use native.Mathlib.Omega.{arith}
use Rattle.bitwise.proofs.Charge.{may_add}
use Rattle.keccak_counts.proofs.Rows.{hit-none, hit-more, hit-all, still-elements}
use Rattle.keccak_counts.proofs.charge_pairs.Goals as goal

pub loop-i-init : goal.loop-i-init
loop-i-init c = hit-none _ 4 c.requires

pub charge_word-requires : goal.charge_word-requires
charge_word-requires c =
    may_add _ (still-elements c.loop-i.invariant.added c.requires.long) (omega arith)

pub loop-i-preserved : goal.loop-i-preserved
loop-i-preserved c =
    hit-more _ c.loop-i.invariant c.requires.long (omega arith) (omega arith) c.charge_word.ensures

pub returns : goal.returns
returns c = hit-all _ c.loop-i.invariant c.requires.long c.loop-i-test.false
