use mathlib.Core.Path.{sym, ◌∙◌}
use mathlib.Core.Logic.{⊎_elim}
use native.Mathlib.Omega.{arith}
use Rattle.lists.proofs.First.{first-start, at_more, any-hit, any_none}
use Rattle.judge_scan.specs.Tables.{layout_of}
use Rattle.judge_scan.proofs.Scan.{row-long}
use Rattle.judge_scan.proofs.Stamps.{same-stamp-off, same-stamp-on}
use Rattle.judge_scan.proofs.has_same_stamp.Goals as goal

pub row_at-y-requires : goal.row_at-y-requires
unfolding layout_of
row_at-y-requires c = c.requires

pub loop-q-init : goal.loop-q-init
loop-q-init c = first-start _

pub is_active-requires : goal.is_active-requires
unfolding layout_of
is_active-requires c = omega arith

pub row_at-x-requires : goal.row_at-x-requires
unfolding layout_of
row_at-x-requires c = omega arith

pub same_stamp-requires : goal.same_stamp-requires
unfolding layout_of
same_stamp-requires c = let h = row-long _ _ _ _ c.row_at-x.ensures in let g = row-long _ _ _ _ c.row_at-y.ensures in (omega arith, omega arith)

pub returns-then-same_stamp : goal.returns-then-same_stamp
unfolding layout_of
returns-then-same_stamp c =
    let l = c.loop-q in
    sym (any-hit _ _ _ c.loop-q-test.true l.invariant
    (same-stamp-on _ _ _ _ _ _ (sym c.is_active.ensures ∙ c.if-is_active.true) c.row_at-x.ensures c.row_at-y.ensures (sym c.same_stamp.ensures ∙ c.if-same_stamp.true)))

pub loop-q-preserved : goal.loop-q-preserved
unfolding layout_of
loop-q-preserved c =
    let h = c.loop-q.invariant in
    let e = sym c.is_active.ensures in
    let y = c.row_at-y.ensures in
    at_more _ _ h (⊎_elim (λ w. same-stamp-on _ _ _ _ _ _ (e ∙ w.if-is_active.true) w.row_at-x.ensures y (sym w.same_stamp.ensures ∙ w.if-same_stamp.false)) (λ w. same-stamp-off _ _ _ (e ∙ w.if-is_active.false)) c.if-is_active.branch-raw)

pub returns : goal.returns
returns c = sym (any_none _ _ _ c.loop-q.auto.q-end c.loop-q-test.false c.loop-q.invariant)
