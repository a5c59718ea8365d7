-- `judge_within::places::is_active_place` meets its contract, table by table.
use mathlib.Core.Path.{sym, ap, subst, ◌∙◌}
use Prim.Native.Nat.{ℕ, ◌-◌, ◌/◌, ◌<◌}
use native.Mathlib.Omega.{arith}
use Rattle.verdict.specs.Kind.{rows, active}
use Rattle.verdict.specs.declared.Table.TheVariants.{Round}
use Rattle.judge_scan.specs.Tables.{layout_of}
use Rattle.sort_places.proofs.Places.{core-in, round-in}
use Rattle.judge_within.proofs.Wanted.{core-active, round-active}
use Rattle.judge_within.proofs.places.is_active_place.Goals as goal

pub is_active-requires : goal.is_active-requires
is_active-requires c =
    let a = c.args in
    core-in a.core.now a.round.now a.p (omega (arith, c.core_places-n.ensures))

pub returns-then-p-n : goal.returns-then-p-n
returns-then-p-n c =
    let a = c.args in
    c.is_active.ensures ∙ core-active a.core.now a.round.now a.p (omega (arith, c.core_places-n.ensures))

pub is_active-requires-2 : goal.is_active-requires-2
is_active-requires-2 c =
    let a = c.args in
    let e = c.core_places-n.ensures in
    subst (λ (n : ℕ). (a.p - n) / 2 < rows (layout_of Round) a.round.now) (sym e) (round-in a.core.now a.round.now a.p (omega (arith, e)) c.requires)

pub returns : goal.returns
returns c =
    let a = c.args in
    let e = c.core_places-n.ensures in
    c.is_active-2.ensures ∙ ap (λ (n : ℕ). active (layout_of Round) a.round.now ((a.p - n) / 2)) e ∙ round-active a.core.now a.round.now a.p (omega (arith, e))
