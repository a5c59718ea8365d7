-- `judge_scan::is_active` meets its contract: MU is the last word of the row.
use native.Mathlib.Omega.{arith}
use Rattle.judge_scan.proofs.Scan.{wide, ends_as, active-as}
use Rattle.judge_scan.proofs.is_active.Goals as goal

pub overflow_mul-result : goal.overflow_mul-result
overflow_mul-result c = let h = ends_as _ _ c.width_of-width.ensures c.args.words.now c.args.row c.requires in omega arith

pub overflow_sub-result : goal.overflow_sub-result
overflow_sub-result c = let g = wide c.args.table in omega (arith, c.width_of-width.ensures)

pub overflow_add-result : goal.overflow_add-result
overflow_add-result c = let h = ends_as _ _ c.width_of-width.ensures c.args.words.now c.args.row c.requires in omega arith

pub offset_bounds-words-row : goal.offset_bounds-words-row
offset_bounds-words-row c = let h = ends_as _ _ c.width_of-width.ensures c.args.words.now c.args.row c.requires in omega arith

pub bounds-words-row : goal.bounds-words-row
bounds-words-row c =
    let e = c.width_of-width.ensures in
    let h = ends_as _ _ e c.args.words.now c.args.row c.requires in
    let g = wide c.args.table in omega arith

pub returns : goal.returns
returns c = active-as _ _ c.width_of-width.ensures _ _ c.requires
