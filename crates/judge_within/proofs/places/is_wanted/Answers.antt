-- `judge_within::places::is_wanted` meets its contract, one test after the other (Wanted.antt).
use mathlib.Core.Path.{◌∙◌}
use native.Mathlib.Omega.{arith}
use Rattle.judge_within.proofs.Wanted.{all_wanted, late-unwanted, second-unwanted, first-wanted}
use Rattle.judge_within.proofs.places.is_wanted.Goals as goal

pub returns-then-whole : goal.returns-then-whole
returns-then-whole c =
    let a = c.args in
    c.is_active_place.ensures ∙ all_wanted a.core.now a.round.now a.p a.whole c.if-whole.true

pub returns-then-p-core_places : goal.returns-then-p-core_places
returns-then-p-core_places c =
    let a = c.args in
    late-unwanted a.core.now a.round.now a.p a.whole c.if-whole.false (omega (arith, c.core_places.ensures))

pub returns-then-p-ne0 : goal.returns-then-p-ne0
returns-then-p-ne0 c =
    let a = c.args in
    second-unwanted a.core.now a.round.now a.p a.whole c.if-whole.false (omega (arith, c.core_places.ensures)) c.if-p-ne0.true

pub returns : goal.returns
returns c =
    let a = c.args in
    c.is_active_place-2.ensures
    ∙ first-wanted a.core.now a.round.now a.p a.whole c.if-whole.false (omega (arith, c.core_places.ensures)) c.if-p-ne0.false
