-- `job::rows_from` meets its contract: the part that it gives is the rows.
use native.Mathlib.Omega.{arith}
use Rattle.job.proofs.Parts.{ends_as, part-as}
use Rattle.job.proofs.rows_from.Goals as goal

pub overflow_mul-start : goal.overflow_mul-start
overflow_mul-start c = let h = ends_as _ _ c.width_of-width.ensures c.args.words.now c.args.a c.args.n c.requires in omega arith

pub overflow_mul-end : goal.overflow_mul-end
overflow_mul-end c = let h = ends_as _ _ c.width_of-width.ensures c.args.words.now c.args.a c.args.n c.requires in omega arith

pub overflow_add-end : goal.overflow_add-end
overflow_add-end c = let h = ends_as _ _ c.width_of-width.ensures c.args.words.now c.args.a c.args.n c.requires in omega arith

pub offset_bounds-words-start : goal.offset_bounds-words-start
offset_bounds-words-start c = let h = ends_as _ _ c.width_of-width.ensures c.args.words.now c.args.a c.args.n c.requires in omega arith

pub slice_bounds-result-end : goal.slice_bounds-result-end
slice_bounds-result-end c = ends_as _ _ c.width_of-width.ensures c.args.words.now c.args.a c.args.n c.requires

pub returns : goal.returns
returns c = part-as _ _ c.width_of-width.ensures _ _ _ c.requires
