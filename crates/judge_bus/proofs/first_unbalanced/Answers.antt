use mathlib.Core.Path.{ap, sym, ◌∙◌}
use mathlib.Core.Logic.{inl, inr}
use native.Mathlib.Omega.{arith}
use Rattle.lists.proofs.First.{first-start}
use Rattle.judge_scan.specs.Spot.{spot_of}
use Rattle.judge_scan.proofs.Scan.{wide, rows_as, row-long}
use Rattle.judge_bus.proofs.Bus.{spot_is, spot-next, index-small, clear-end, spot-off, spot_on, spot-early, spot-late}
use Rattle.judge_bus.proofs.first_unbalanced.Goals as goal

pub nonzero_div-rows : goal.nonzero_div-rows
nonzero_div-rows c = let g = wide c.args.table in omega (arith, c.width_of.ensures)

pub loop-row-init : goal.loop-row-init
loop-row-init c = first-start _

pub is_active-requires : goal.is_active-requires
is_active-requires c = omega (arith, rows_as _ _ c.width_of.ensures c.args.words.now)

pub row_at-x-requires : goal.row_at-x-requires
row_at-x-requires c = omega (arith, rows_as _ _ c.width_of.ensures c.args.words.now)

pub unbalanced_tuples-u-requires : goal.unbalanced_tuples-u-requires
unbalanced_tuples-u-requires c =
    let h = c.requires in
    let l = row-long _ _ _ _ c.row_at-x.ensures in (h.0, h.1, h.2, omega arith)

pub overflow_add-index : goal.overflow_add-index
overflow_add-index c = let h = index-small _ _ c.first_index-index.ensures in omega arith

pub loop-row-preserved : goal.loop-row-preserved
loop-row-preserved c =
    let v = c.loop-row.invariant in
    let a = c.is_active.ensures in
    elim c.if-is_active.branch-raw [
      | inl w ↦ spot_on _ _ _ _ _ _ v (sym a ∙ w.if-is_active.true) _ w.row_at-x.ensures _ w.unbalanced_tuples-u.ensures.0 w.if-u.false _ w.unbalanced_tuples-u.ensures.1 w.if-u-2.false
      | inr w ↦ spot-off _ _ _ _ _ _ v (sym a ∙ w.if-is_active.false)
    ]

pub returns-then-u : goal.returns-then-u
returns-then-u c =
    spot_is _ _ _ _ c.first_index-index.ensures
    (spot-early _ _ _ _ _ _ c.loop-row.invariant (sym c.is_active.ensures ∙ c.if-is_active.true) _ c.row_at-x.ensures _
    c.unbalanced_tuples-u.ensures.0 _ (rows_as _ _ c.width_of.ensures c.args.words.now) c.loop-row-test.true c.if-u.true)

pub returns-then-u-2 : goal.returns-then-u-2
returns-then-u-2 c =
    let u = c.unbalanced_tuples-u.ensures in
    spot-next _ _ _ _ c.first_index-index.ensures
    (spot-late _ _ _ _ _ _ c.loop-row.invariant (sym c.is_active.ensures ∙ c.if-is_active.true) _ c.row_at-x.ensures _
    u.0 c.if-u.false _ u.1 _ (rows_as _ _ c.width_of.ensures c.args.words.now) c.loop-row-test.true c.if-u-2.true)

pub returns : goal.returns
returns c =
    sym (ap spot_of (clear-end _ _ _ _ _ _ _ (rows_as _ _ c.width_of.ensures c.args.words.now) c.loop-row.auto.row-end c.loop-row-test.false c.loop-row.invariant))
