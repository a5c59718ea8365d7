use native.Mathlib.Omega.{arith}
use Rattle.is_wh_counts.proofs.Charging.{good-row, list-start, row_below, list-more, list_all}
use Rattle.is_wh_counts.proofs.charge_rows.Goals as goal

pub loop-i-init : goal.loop-i-init
loop-i-init c = list-start _ _

pub charge_row-requires : goal.charge_row-requires
charge_row-requires c =
    let v = c.loop-i.invariant in
    let g = good-row c.args.rows.now c.requires.2 c.loop-i.i (omega (arith, c.requires.3)) in (
      omega (arith, v.grown.long, c.requires.0),
      row_below c.args.rows.now c.args.counters.now c.requires.0 c.requires.2 c.args.n c.requires.3 c.requires.1 c.loop-i.i v c.loop-i-test.true,
      g.0,
      g.1,
      g.2,
    )

pub loop-i-preserved : goal.loop-i-preserved
loop-i-preserved c =
    list-more c.args.rows.now c.args.counters.now c.requires.0 c.requires.2 c.args.n c.requires.3 c.requires.1 c.loop-i.i c.loop-i.invariant c.loop-i-test.true c.charge_row.ensures

pub returns : goal.returns
returns c =
    list_all c.args.rows.now c.args.counters.now c.requires.0 c.requires.2 c.args.n c.requires.3 c.requires.1 c.loop-i.i c.loop-i.invariant c.loop-i-test.false
