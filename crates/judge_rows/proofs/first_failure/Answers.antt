use mathlib.Core.Path.{◌≡◌, ap, sym, ◌∙◌}
use mathlib.Core.Logic.{⊎_elim}
use native.Mathlib.Omega.{arith}
use borrow.Author.Rules.{rules}
use Rattle.lists.specs.Tab.{word}
use Rattle.judge_scan.specs.Spot.{spot_of}
use Rattle.judge_scan.proofs.Scan.{wide, rows_as, ends_as, row_as, element-as}
use Rattle.judge_rows.proofs.Rows.{told, size_small, clear-start, clear-from, clear-end, next-index, row-end, row-good, found-bad}
use Rattle.judge_rows.proofs.first_failure.Goals as goal

pub nonzero_div-rows : goal.nonzero_div-rows
nonzero_div-rows c = let g = wide c.args.table in omega (arith, c.width_of-width.ensures)

pub loop-row-init : goal.loop-row-init
loop-row-init c = (clear-start _ _ _, search rules)

pub overflow_mul-start : goal.overflow_mul-start
overflow_mul-start c =
    let e = c.width_of-width.ensures in
    let h = ends_as _ _ e c.args.words.now c.loop-row.row (omega (arith, rows_as _ _ e c.args.words.now)) in
    omega arith

pub overflow_add-end : goal.overflow_add-end
overflow_add-end c =
    let e = c.width_of-width.ensures in
    let h = ends_as _ _ e c.args.words.now c.loop-row.row (omega (arith, rows_as _ _ e c.args.words.now)) in
    omega arith

pub offset_bounds-words-start : goal.offset_bounds-words-start
offset_bounds-words-start c =
    let e = c.width_of-width.ensures in
    let h = ends_as _ _ e c.args.words.now c.loop-row.row (omega (arith, rows_as _ _ e c.args.words.now)) in
    omega arith

pub slice_bounds-put_words-end : goal.slice_bounds-put_words-end
slice_bounds-put_words-end c =
    let e = c.width_of-width.ensures in
    ends_as _ _ e c.args.words.now c.loop-row.row (omega (arith, rows_as _ _ e c.args.words.now))

pub put_words-requires : goal.put_words-requires
put_words-requires c =
    let e = c.width_of-width.ensures in
    (element-as _ _ e _ _ (omega (arith, rows_as _ _ e c.args.words.now)) c.requires, omega (arith, c.loop-row.invariant.1))

pub or_of-requires : goal.or_of-requires
or_of-requires c =
    omega (arith, c.size_of-size.ensures 0, size_small c.args.table c.args.check, (c.put_words.ensures 0).kept, c.loop-row.invariant.1)

pub loop-index-init : goal.loop-index-init
loop-index-init c = clear-from _ _ _ _

pub offset_bounds-checks-index : goal.offset_bounds-checks-index
offset_bounds-checks-index c = omega (arith, c.size_of-size.ensures 0, size_small c.args.table c.args.check)

pub bounds-checks-index : goal.bounds-checks-index
bounds-checks-index c =
    omega (arith, c.size_of-size.ensures 0, size_small c.args.table c.args.check, (c.put_words.ensures 0).kept, c.loop-row.invariant.1)

pub returns-then-checks-index-ne0 : goal.returns-then-checks-index-ne0
returns-then-checks-index-ne0 c nr =
    let e = rows_as _ _ c.width_of-width.ensures c.args.words.now in
    let t = told _ _ _ _ _ _ _ _ c.size_of-size.ensures (row_as _ _ c.width_of-width.ensures _ _ (omega arith)) c.put_words.ensures in
    let z : word c.put_words.new.out c.loop-index.index ≡ 0 → ⊥ = omega arith in
    sym (ap spot_of (found-bad _ _ _ _ _ _ t _ c.loop-index-test.true z _ e c.loop-row-test.true c.loop-row.invariant.0 c.loop-index.invariant nr))

pub loop-index-preserved : goal.loop-index-preserved
loop-index-preserved c =
    let e = rows_as _ _ c.width_of-width.ensures c.args.words.now in
    let t = told _ _ _ _ _ _ _ _ c.size_of-size.ensures (row_as _ _ c.width_of-width.ensures _ _ (omega arith)) c.put_words.ensures in
    let z : word c.put_words.new.out c.loop-index.index ≡ 0 = omega arith in
    next-index _ _ _ _ _ _ t _ c.loop-index-test.true z c.loop-index.invariant

pub loop-row-preserved : goal.loop-row-preserved
loop-row-preserved c =
    let e = rows_as _ _ c.width_of-width.ensures c.args.words.now in
    let t = told _ _ _ _ _ _ _ _ c.size_of-size.ensures (row_as _ _ c.width_of-width.ensures _ _ (omega arith)) c.put_words.ensures in
    let f = c.loop-row.invariant.0 in
    let n = (c.put_words.ensures 0).kept ∙ c.loop-row.invariant.1 in
    ⊎_elim
    (λ w. (row-end _ _ _ _ _ _ t _ w.loop-index.auto.index-end w.loop-index-test.false f w.loop-index.invariant, n))
    (λ w. (row-good _ _ _ _ _ _ t _ c.or_of.ensures w.if-or_of-ne0.false f, n))
    c.if-or_of-ne0.branch-raw

pub returns : goal.returns
returns c nr =
    let e = rows_as _ _ c.width_of-width.ensures c.args.words.now in
    sym (ap spot_of (clear-end _ _ _ _ _ e c.loop-row.auto.row-end c.loop-row-test.false c.loop-row.invariant.0 nr))
