-- `judge_scan::row_at` meets its contract: the part that it gives is the row.
use native.Mathlib.Omega.{arith}
use Rattle.judge_scan.proofs.Scan.{ends_as, row_as}
use Rattle.judge_scan.proofs.row_at.Goals as goal

pub overflow_mul-start : goal.overflow_mul-start
overflow_mul-start c = let h = ends_as _ _ c.width_of-width.ensures c.args.words.now c.args.row c.requires in omega arith

pub overflow_add-end : goal.overflow_add-end
overflow_add-end c = let h = ends_as _ _ c.width_of-width.ensures c.args.words.now c.args.row c.requires in omega arith

pub offset_bounds-words-start : goal.offset_bounds-words-start
offset_bounds-words-start c = let h = ends_as _ _ c.width_of-width.ensures c.args.words.now c.args.row c.requires in omega arith

pub slice_bounds-result-end : goal.slice_bounds-result-end
slice_bounds-result-end c = ends_as _ _ c.width_of-width.ensures c.args.words.now c.args.row c.requires

pub returns : goal.returns
returns c = row_as _ _ c.width_of-width.ensures _ _ c.requires
