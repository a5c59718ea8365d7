use mathlib.Core.Path.{refl, sym, subst, ◌∙◌}
use mathlib.Core.Logic.{⊎_elim}
use Rattle.judge_scan.specs.Tables.{layout_of}
use Rattle.judge_links.specs.Even.{Started}
use Rattle.judge_links.proofs.Even.{started-at, started-nowhere}
use Rattle.judge_walk.proofs.Turns.{chain-out, chain-off, chain-stop, chain-end, chain-on, chain-last}
use Rattle.judge_walk.proofs.chain.Goals as goal

pub loop-q-init : goal.loop-q-init
loop-q-init c = (started-nowhere _, refl)

pub is_active-requires : goal.is_active-requires
unfolding layout_of
is_active-requires c = c.loop-q-test.true

pub takes-requires : goal.takes-requires
takes-requires c = (c.requires.0, c.loop-q-test.true, c.loop-q.invariant.0)

pub returns-then-not-takes : goal.returns-then-not-takes
unfolding layout_of
returns-then-not-takes c =
    sym (chain-stop _ _ _ _ _ _ _ c.loop-q-test.true (sym c.is_active.ensures ∙ c.if-is_active.true) (sym c.takes.ensures ∙ c.if-not-takes.true)) ∙ c.loop-q.invariant.1

pub ends-requires : goal.ends-requires
ends-requires c = (c.requires.0, c.loop-q-test.true)

pub returns-then-ends : goal.returns-then-ends
unfolding layout_of
returns-then-ends c =
    sym (chain-end _ _ _ _ _ _ _ c.loop-q-test.true (sym c.is_active.ensures ∙ c.if-is_active.true)
    (sym c.takes.ensures ∙ c.if-not-takes.false) (sym c.ends.ensures ∙ c.if-ends.true)) ∙ c.loop-q.invariant.1

pub loop-q-preserved : goal.loop-q-preserved
unfolding layout_of
loop-q-preserved c =
    let v = c.loop-q.invariant in
    let l = c.loop-q-test.true in
    let e = sym c.is_active.ensures in
    ⊎_elim
    (λ w. (
      started-at _ _ _ w.last-is l,
      chain-last _ _ _ _ _ _ w.last-is ∙ sym (chain-on _ _ _ _ _ _ _ l (e ∙ w.if-is_active.true) (sym w.takes.ensures ∙ w.if-not-takes.false) (sym w.ends.ensures ∙ w.if-ends.false)) ∙ v.1,
    ))
    (λ w. (subst (Started _) (sym w.last-is) v.0, chain-last _ _ _ _ _ _ w.last-is ∙ sym (chain-off _ _ _ _ _ _ _ l (e ∙ w.if-is_active.false)) ∙ v.1))
    c.if-is_active.branch-raw

pub returns : goal.returns
returns c = sym (chain-out _ _ _ _ _ _ _ c.loop-q-test.false) ∙ c.loop-q.invariant.1
