-- `tuple::check::check_values` meets its contract: one check after the other.
use mathlib.Core.Path.{refl, sym, ◌∙◌}
use borrow.Author.Tests.{le-ltb, lt-ltb}
use Rattle.lists.proofs.First.{place_at, place-nowhere}
use Rattle.answer.proofs.Laws.{refuse-yes, refuse-no, at-yes, at-no, answers, accepts}
use Rattle.tuple.specs.Values.{values_refusal}
use Rattle.tuple.proofs.check.check_values.Goals as goal

pub returns-then-row-width : goal.returns-then-row-width
unfolding values_refusal
returns-then-row-width c = answers (refuse-yes _ _ (lt-ltb _ _ c.if-row-width.true))

pub returns-then-room-count : goal.returns-then-room-count
unfolding values_refusal
returns-then-room-count c = answers (refuse-no _ (le-ltb _ _ c.if-row-width.false) (refuse-yes _ _ (lt-ltb _ _ c.if-room-count.true)))

pub returns-in-Some : goal.returns-in-Some
unfolding values_refusal
returns-in-Some c =
    let r = c.first_not_element in
    answers
    (refuse-no _ (le-ltb _ _ c.if-row-width.false)
    (refuse-no _ (le-ltb _ _ c.if-room-count.false)
    (at-yes _ _ (place_at _ (sym c.in-Some.is ∙ r.ensures)))))

pub returns : goal.returns
unfolding values_refusal
returns c =
    let r = c.first_not_element in
    accepts
    (refuse-no _ (le-ltb _ _ c.if-row-width.false)
    (refuse-no _ (le-ltb _ _ c.if-room-count.false)
    (at-no _ (place-nowhere _ (sym c.in_default.is ∙ r.ensures)) refl)))
