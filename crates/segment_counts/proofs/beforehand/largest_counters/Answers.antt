use mathlib.Core.Path.{sym}
use native.Mathlib.Omega.{arith}
use Rattle.segment_counts.proofs.Looking.{up-long, up_none, up_more, up-all}
use Rattle.segment_counts.proofs.beforehand.largest_counters.Goals as goal

pub loop-r-init : goal.loop-r-init
loop-r-init c = (up_none c.args.counters.now, omega arith)

pub slice_bounds-raise-end : goal.slice_bounds-raise-end
slice_bounds-raise-end c =
    sym (up-long c.args.counters.now c.loop-r.most c.loop-r.r c.loop-r.invariant.0)

pub raise-requires : goal.raise-requires
raise-requires c =
    let e = up-long c.args.counters.now c.loop-r.most c.loop-r.r c.loop-r.invariant.0 in
    (omega (arith, e), omega arith)

pub loop-r-preserved : goal.loop-r-preserved
loop-r-preserved c =
    (up_more c.args.counters.now c.loop-r.most c.raise.new.most c.loop-r.r c.loop-r.invariant.0 c.raise.ensures, omega arith)

pub returns : goal.returns
returns c = up-all _ _ _ c.loop-r.invariant.0 c.loop-r.invariant.1 c.loop-r-test.false
