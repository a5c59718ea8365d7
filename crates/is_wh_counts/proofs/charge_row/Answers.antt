-- `is_wh_counts::charge_row` meets its contract: four counters, one after the other. After each of them the counters are as many,
-- and those below p stay so.
use mathlib.Core.List.{List}
use mathlib.Core.Path.{ap, ◌∙◌}
use Prim.Native.Nat.{ℕ, ◌+◌, ◌*◌, ◌/◌, ◌%◌}
use native.Mathlib.Omega.{arith}
use Rattle.is_wh_counts.specs.Steps.{charge_some, charged_by_row}
use Rattle.is_wh_counts.proofs.Grown.{kept-one, kept_more, kept_there}
use Rattle.is_wh_counts.proofs.charge_row.Goals as goal

pub charge_some-requires : goal.charge_some-requires
charge_some-requires c = (omega (arith, c.requires.0, c.requires.4), λ _. c.requires.1.twenty)

pub charge_some-requires-2 : goal.charge_some-requires-2
charge_some-requires-2 c =
    let one = kept-one _ _ c.charge_some.ensures in
    kept_there one _ (omega (arith, c.requires.0, c.requires.3)) c.requires.1.half

pub charge_some-requires-3 : goal.charge_some-requires-3
charge_some-requires-3 c =
    let two = kept_more (kept-one _ _ c.charge_some.ensures) _ _ c.charge_some-2.ensures in
    kept_there two _ (omega (arith, c.requires.0)) c.requires.1.low

pub charge_some-requires-4 : goal.charge_some-requires-4
charge_some-requires-4 c =
    let two = kept_more (kept-one _ _ c.charge_some.ensures) _ _ c.charge_some-2.ensures in
    let three = kept_more two _ _ c.charge_some-3.ensures in
    kept_there three _ (omega (arith, c.requires.0, c.requires.2)) c.requires.1.high

pub returns : goal.returns
unfolding charged_by_row
returns c =
    c.charge_some-4.ensures
    ∙ ap (λ (C : List ℕ). charge_some C (c.args.word / 65536 * 10 + 4) c.args.mu)
    (c.charge_some-3.ensures
    ∙ ap (λ (C : List ℕ). charge_some C (c.args.word % 65536 * 10 + 4) c.args.mu)
    (c.charge_some-2.ensures ∙ ap (λ (C : List ℕ). charge_some C (c.args.half * 10 + 4) c.args.mu) c.charge_some.ensures))
