use native.Mathlib.Omega.{arith}
use Rattle.keccak.specs.Row.{op_at}
use Rattle.keccak_counts.proofs.Rows.{rows_none, rows_more, rows_all, still-elements}
use Rattle.keccak_counts.proofs.charge_core_rows.Goals as goal

pub loop-i-init : goal.loop-i-init
loop-i-init c = rows_none _ _ c.requires.1

pub charge_core_row-requires : goal.charge_core_row-requires
unfolding op_at
charge_core_row-requires c =
    (still-elements c.loop-i.invariant.added c.requires.1.long, c.requires.2 c.loop-i.i c.loop-i-test.true)

pub loop-i-preserved : goal.loop-i-preserved
unfolding op_at
loop-i-preserved c =
    rows_more _ c.loop-i.invariant c.requires.1.long (omega arith) c.charge_core_row.ensures

pub returns : goal.returns
returns c = rows_all _ c.loop-i.invariant c.requires.1.long c.loop-i-test.false
