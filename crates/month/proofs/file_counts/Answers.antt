use mathlib.Core.Path.{sym, ◌∙◌}
use native.Mathlib.Omega.{arith}
use Rattle.month.proofs.Heights.{height-is}
use Rattle.month.proofs.Histogram.{counts-none, counts-most, counts-more, counts_all}
use Rattle.month.proofs.file_counts.Goals as goal

pub loop-i-init : goal.loop-i-init
loop-i-init c = (omega arith, counts-none _ _ _)

pub rows_of-rows-requires : goal.rows_of-rows-requires
rows_of-rows-requires c =
    let p = c.requires in
    (p.most-rounds, p.power, p.each _ c.loop-i-test.true)

pub height_place-e-requires : goal.height_place-e-requires
height_place-e-requires c =
    let p = c.requires in
    let x = height-is _ _ _ p.most-rounds p.power (p.each _ c.loop-i-test.true) in
    (x.0, x.1, c.rows_of-rows.ensures.1 ∙ x.2)

pub offset_bounds-files-e : goal.offset_bounds-files-e
offset_bounds-files-e c = omega (arith, c.height_place-e.ensures.0)

pub bounds-files-e : goal.bounds-files-e
bounds-files-e c = c.height_place-e.ensures.0

pub overflow_add-files : goal.overflow_add-files
overflow_add-files c =
    omega (arith, counts-most _ _ _ _ c.loop-i.invariant.1 c.height_place-e.result c.height_place-e.ensures.0, c.requires.few, c.loop-i.invariant.0)

pub bounds-files-e-in-loop-i : goal.bounds-files-e-in-loop-i
bounds-files-e-in-loop-i c = c.height_place-e.ensures.0

pub loop-i-preserved : goal.loop-i-preserved
loop-i-preserved c =
    let h = c.height_place-e.ensures in
    (omega arith, counts-more _ _ _ _ c.loop-i.invariant.1 h.0 (sym c.rows_of-rows.ensures.1 ∙ h.1))

pub returns : goal.returns
returns c = counts_all _ _ _ _ c.loop-i.invariant.1 c.loop-i.invariant.0 c.loop-i-test.false
