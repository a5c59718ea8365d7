use mathlib.Core.Path.{sym, ◌∙◌}
use mathlib.Core.Logic.{⊎_elim}
use native.Mathlib.Omega.{arith}
use Rattle.judge_scan.specs.Tables.{layout_of}
use Rattle.judge_walk.proofs.Owing.{chain-in}
use Rattle.judge_walk.proofs.Turns.{walk-begin, walk-end, walk-off, walk-on, walk-stop, walk-told}
use Rattle.judge_walk.proofs.walk.Goals as goal

pub loop-a-init : goal.loop-a-init
loop-a-init c = (omega arith, walk-begin _ _ _ _)

pub is_active-requires : goal.is_active-requires
unfolding layout_of
is_active-requires c = c.loop-a-test.true

pub chain-requires : goal.chain-requires
chain-requires c = (c.loop-a-test.true, c.loop-a.invariant.0)

pub loop-a-preserved : goal.loop-a-preserved
unfolding layout_of
loop-a-preserved c =
    let h = c.loop-a.invariant in
    let l = c.loop-a-test.true in
    let e = sym c.is_active.ensures in
    ⊎_elim
    (λ w. (chain-in _ _ _ _ _ (e ∙ w.if-is_active.true) h.0 _ _ _ w.chain.ensures w.in-Some.is w.b-is, sym (walk-on _ _ _ _ _ _ l (e ∙ w.if-is_active.true) _ w.chain.ensures _ _ w.in-Some.is w.b-is) ∙ h.1))
    (λ w. (omega (arith, w.b-is), sym (walk-off _ _ _ _ _ _ l _ w.b-is (e ∙ w.if-is_active.false)) ∙ h.1))
    c.if-is_active.branch-raw

pub returns-in_default : goal.returns-in_default
unfolding layout_of
returns-in_default c =
    walk-told _ _ _ _ _ _
    (sym (walk-stop _ _ _ _ _ _ c.loop-a-test.true (sym c.is_active.ensures ∙ c.if-is_active.true) _ c.chain.ensures c.in_default.is) ∙ c.loop-a.invariant.1)
    c.active_from.ensures

pub returns : goal.returns
returns c =
    walk-told _ _ _ _ _ _ (sym (walk-end _ _ _ _ _ _ c.loop-a-test.false c.loop-a.auto.a-end) ∙ c.loop-a.invariant.1) c.active_from-2.ensures
