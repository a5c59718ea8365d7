use mathlib.Core.Path.{refl, sym, ◌∙◌}
use native.Mathlib.Omega.{arith}
use Rattle.judge_scan.specs.Tables.{layout_of}
use Rattle.judge_walk.proofs.Turns.{active-end, active-here, active_on}
use Rattle.judge_walk.proofs.active_from.Goals as goal

pub loop-q-init : goal.loop-q-init
loop-q-init c = refl

pub is_active-requires : goal.is_active-requires
unfolding layout_of
is_active-requires c = c.loop-q-test.true

pub returns-then-is_active : goal.returns-then-is_active
unfolding layout_of
returns-then-is_active c =
    sym (active-here _ _ _ c.loop-q-test.true (sym c.is_active.ensures ∙ c.if-is_active.true)) ∙ c.loop-q.invariant

pub loop-q-preserved : goal.loop-q-preserved
unfolding layout_of
loop-q-preserved c =
    sym (active_on _ _ _ c.loop-q-test.true (sym c.is_active.ensures ∙ c.if-is_active.false)) ∙ c.loop-q.invariant

pub returns : goal.returns
returns c = sym (active-end _ _ _ c.loop-q-test.false (omega (arith, c.requires))) ∙ c.loop-q.invariant
