-- `judge_within::from_core_balance` meets its contract: the balance as one search over places (Balance.antt).
use mathlib.Core.Path.{sym, ap, ◌∙◌}
use native.Mathlib.Omega.{arith}
use mathlib.Core.Bool.{true}
use Rattle.judge_within.proofs.Wanted.{arranged-few, front-is, front_long, front-in}
use Rattle.lists.proofs.First.{place_at, place-nowhere}
use Rattle.verdict.proofs.Stages.{passes, answers}
use Rattle.judge_within.specs.Places.{balance_of}
use Rattle.verdict.specs.declared.Verdict.TheVariants.{Holds}
use Rattle.judge_scan.specs.Tables.{layout_of}
use Rattle.judge_within.proofs.Balance.{balance-is}
use Rattle.judge_within.proofs.from_core_balance.Goals as goal

pub slice_bounds-first_unbalanced-end : goal.slice_bounds-first_unbalanced-end
slice_bounds-first_unbalanced-end c =
    let a = c.args in
    let few = arranged-few true a.nr a.core.now a.round.now in
    front-in a.scratch.now _ _ _ (omega (arith, few, c.requires.0)) c.arrange-m.ensures.number c.arrange-m.ensures.scratch

pub slice_bounds-first_unbalanced-end-2 : goal.slice_bounds-first_unbalanced-end-2
slice_bounds-first_unbalanced-end-2 c =
    let a = c.args in
    let few = arranged-few true a.nr a.core.now a.round.now in
    front_long a.scratch.now _ _ _ (omega (arith, few, c.requires.0)) c.arrange-m.ensures.number c.arrange-m.ensures.scratch

pub first_unbalanced-requires : goal.first_unbalanced-requires
first_unbalanced-requires c =
    let a = c.args in
    let few = arranged-few true a.nr a.core.now a.round.now in
    front-is a.scratch.now _ _ _ (omega (arith, few, c.requires.0)) c.arrange-m.ensures.number c.arrange-m.ensures.scratch

pub returns-in-Some : goal.returns-in-Some
unfolding balance_of
returns-in-Some c =
    let a = c.args in
    c.unbalanced_at.ensures
    ∙ sym (balance-is a.nr a.core.now a.round.now ∙ answers _ _ _ _ (place_at _ (sym c.in-Some.is ∙ c.first_unbalanced.ensures)))

pub returns : goal.returns
unfolding balance_of layout_of
returns c =
    let a = c.args in
    ap Holds c.active_rows.ensures
    ∙ sym (balance-is a.nr a.core.now a.round.now ∙ passes _ _ _ (place-nowhere _ (sym c.in_default.is ∙ c.first_unbalanced.ensures)))
