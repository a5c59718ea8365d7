use mathlib.Core.Path.{◌≡◌, refl, sym, ap, ◌∙◌}
use mathlib.Core.Bool.{not}
use Prim.Native.Nat.{◌+◌, ◌^◌, ◌≤◌}
use native.Mathlib.Omega.{arith}
use lib.Pow.{pow_mono}
use borrow.Author.Tests.{eq-eqb, ne_eqb}
use Rattle.lists.proofs.First.{first-start, at_more, any-hit, any_none}
use Rattle.answer.specs.Refusal.{is_floor}
use Rattle.answer.proofs.Laws.{refuse-yes, refuse-no, answers, accepts}
use Rattle.answer.proofs.check_floor.Goals as goal

pub loop-e-init : goal.loop-e-init
loop-e-init c = first-start _

pub pow-requires : goal.pow-requires
pow-requires c = let b : 2 ^ (2 + c.loop-e.e) ≤ 2 ^ 16 = pow_mono {i = 2 + c.loop-e.e} {j = 16} (omega arith) in omega (arith, b)

pub returns-then-floor-pow : goal.returns-then-floor-pow
unfolding is_floor
returns-then-floor-pow c =
    accepts (refuse-no _ (ap not (any-hit _ _ _ c.loop-e-test.true c.loop-e.invariant (eq-eqb _ _ (c.if-floor-pow.true ∙ c.pow.ensures)))) refl)

pub loop-e-preserved : goal.loop-e-preserved
loop-e-preserved c = at_more _ _ c.loop-e.invariant (ne_eqb _ _ (λ e. c.if-floor-pow.false (e ∙ sym c.pow.ensures)))

pub returns : goal.returns
unfolding is_floor
returns c =
    answers (refuse-yes _ _ (ap not (any_none _ _ _ (c.loop-e.auto.e-end) c.loop-e-test.false c.loop-e.invariant)))
