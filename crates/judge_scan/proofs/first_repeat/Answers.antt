use mathlib.Core.Path.{refl, ap, sym, ◌∙◌}
use mathlib.Core.Logic.{⊎_elim}
use native.Mathlib.Omega.{arith}
use Rattle.lists.specs.First.{place_of}
use Rattle.lists.proofs.First.{at-hit, at_none}
use Rattle.judge_scan.specs.Tables.{layout_of}
use Rattle.judge_scan.proofs.Stamps.{new-start, new-off, new-above, new-below, repeats-on}
use Rattle.judge_scan.proofs.first_repeat.Goals as goal

pub loop-row-init : goal.loop-row-init
loop-row-init c = new-start _ _

pub is_active-requires : goal.is_active-requires
unfolding layout_of
is_active-requires c = c.loop-row-test.true

pub has_same_stamp-requires : goal.has_same_stamp-requires
has_same_stamp-requires c = omega (arith, c.loop-row-test.true)

pub returns-then-has_same_stamp : goal.returns-then-has_same_stamp
unfolding layout_of
returns-then-has_same_stamp c =
    let l = c.loop-row in
    sym (ap place_of (at-hit _ _ _ c.loop-row-test.true l.invariant.fresh
    (repeats-on _ _ _ (sym c.is_active.ensures ∙ c.if-is_active.true) (sym c.has_same_stamp.ensures ∙ c.if-has_same_stamp.true))))

pub loop-row-preserved : goal.loop-row-preserved
unfolding layout_of
loop-row-preserved c =
    let h = c.loop-row.invariant in
    let e = sym c.is_active.ensures in
    ⊎_elim
    (λ w. new-above _ _ _ _ h _ _ refl refl (sym w.above.ensures ∙ w.if-above.true) w.top-is)
    (⊎_elim
    (λ w. new-below _ _ _ _ h _ _ refl refl (sym w.above.ensures ∙ w.if-above.false) w.top-is (e ∙ w.if-is_active.true) (sym w.has_same_stamp.ensures ∙ w.if-has_same_stamp.false))
    (λ w. new-off _ _ _ _ h w.top-is (e ∙ w.if-is_active.false)))
    c.if-is_active.branch-raw

pub returns : goal.returns
returns c = sym (ap place_of (at_none _ _ _ c.loop-row.auto.row-end c.loop-row-test.false c.loop-row.invariant.fresh))
