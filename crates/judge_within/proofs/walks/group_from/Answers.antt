use mathlib.Core.Path.{◌≡◌, refl, sym, subst, ◌∙◌}
use Prim.Native.Nat.{ℕ}
use mathlib.Core.Bool.{not}
use lib.Dec.{eqb}
use lib.ListN.{length}
use native.Mathlib.Omega.{arith}
use Rattle.judge_within.specs.Groups.{GroupAt}
use Rattle.judge_within.proofs.Unbalanced.{grouped-start, grouped-more, grouped-small, grouped-end, place_in}
use Rattle.judge_within.proofs.walks.group_from.Goals as goal

pub loop-end-init : goal.loop-end-init
loop-end-init c = grouped-start _ _ _ _ c.requires.0 _ c.requires.1

pub same_places-requires : goal.same_places-requires
same_places-requires c =
    let h = place_in c.args.nr c.args.core.now c.args.round.now c.args.places.now c.requires.0 in
    (h _ c.requires.1, h _ c.loop-end-test.true)

pub returns-then-not-same_places : goal.returns-then-not-same_places
returns-then-not-same_places c =
    let e = sym c.same_places.ensures ∙ c.if-not-same_places.true in
    grouped-end _ _ _ _ c.requires.0 _ _ _ c.loop-end.invariant c.requires.1 c.requires.2 (λ g. e) _ refl

pub with_place-t-requires : goal.with_place-t-requires
with_place-t-requires c =
    let g = grouped-small _ _ _ _ c.requires.0 _ _ _ c.loop-end.invariant in
    (omega (arith, g.0), omega (arith, g.1))

pub loop-end-preserved : goal.loop-end-preserved
loop-end-preserved c =
    let e = sym c.same_places.ensures ∙ c.if-not-same_places.false in
    grouped-more _ _ _ _ c.requires.0 _ _ _ _ c.loop-end.invariant c.loop-end-test.true e c.with_place-t.ensures

pub returns : goal.returns
returns c =
    let a = c.args in
    let e : c.loop-end.end ≡ length a.places.now = omega (arith, c.requires.1) in
    subst (λ (n : ℕ). GroupAt a.nr a.core.now a.round.now a.places.now a.start n (not (eqb c.loop-end.t.sent c.loop-end.t.received))) e
    (grouped-end _ _ _ _ c.requires.0 _ _ _ c.loop-end.invariant c.requires.1 c.requires.2 (λ g. absurd (omega arith)) _ refl)
