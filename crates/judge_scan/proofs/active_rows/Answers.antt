use mathlib.Core.Path.{sym, ◌∙◌}
use mathlib.Core.Logic.{⊎_elim}
use native.Mathlib.Omega.{arith}
use Rattle.lists.proofs.First.{count-start, counted-more, counted_skip, counted-le, count-end}
use Rattle.judge_scan.proofs.Scan.{wide, rows_as, rows-small}
use Rattle.judge_scan.proofs.active_rows.Goals as goal

pub nonzero_div-rows : goal.nonzero_div-rows
nonzero_div-rows c = let g = wide c.args.table in omega (arith, c.width_of-width.ensures)

pub loop-row-init : goal.loop-row-init
loop-row-init c = sym (count-start _)

pub is_active-requires : goal.is_active-requires
is_active-requires c = omega (arith, rows_as _ _ c.width_of-width.ensures c.args.words.now)

pub overflow_add-n : goal.overflow_add-n
overflow_add-n c =
    let e = c.width_of-width.ensures in
    let ws = c.args.words.now in
    let g = rows-small _ _ e ws in let h = rows_as _ _ e ws in omega (arith, counted-le _ c.loop-row.invariant)

pub loop-row-preserved : goal.loop-row-preserved
loop-row-preserved c =
    let h = c.loop-row.invariant in
    let e = sym c.is_active.ensures in
    ⊎_elim (λ w. counted-more _ w.n-is h (e ∙ w.if-is_active.true)) (λ w. counted_skip _ w.n-is h (e ∙ w.if-is_active.false)) c.if-is_active.branch-raw

pub returns : goal.returns
returns c =
    let e = rows_as _ _ c.width_of-width.ensures c.args.words.now in
    c.loop-row.invariant ∙ count-end _ _ _ (omega arith) (omega arith)
