-- `segment_counts::checks::check_counts` meets its contract: the number of rounds and the floor, the number of operations, the list
-- and the slice, the counters.
use mathlib.Core.Path.{refl, sym, ◌∙◌}
use Rattle.lists.proofs.First.{place_at, place-nowhere}
use Rattle.answer.specs.Refusal.{accepted}
use Rattle.answer.specs.declared.Refusal.TheVariants.{NotElement}
use Rattle.answer.proofs.Refusals.{both-go-on}
use Rattle.answer.proofs.Laws.{answers, accepts, handed-on, is-refused, is-done, at-yes, at-no}
use Rattle.segment_counts.proofs.Refusals.{parameters-refused, many-refused, list-fits, list-refused, counters-decide}
use Rattle.segment_counts.proofs.checks.check_counts.Goals as goal

pub returns-in_err-check_rounds_and_floor : goal.returns-in_err-check_rounds_and_floor
returns-in_err-check_rounds_and_floor c =
    handed-on _ c.from_residual.ensures.1
    ∙ answers (parameters-refused _ _ _ _ _ _ c.check_rounds_and_floor.ensures c.in_err-check_rounds_and_floor.was)

pub returns-then-ops-gt-MAX_OPS : goal.returns-then-ops-gt-MAX_OPS
returns-then-ops-gt-MAX_OPS c =
    let right = both-go-on c.args.nr c.args.floor c.check_rounds_and_floor.ensures c.in_ok-check_rounds_and_floor.was in
    answers (many-refused _ _ _ _ _ _ right c.if-ops-gt-MAX_OPS.true)

pub returns-in_err-check_operations : goal.returns-in_err-check_operations
returns-in_err-check_operations c =
    let right = both-go-on c.args.nr c.args.floor c.check_rounds_and_floor.ensures c.in_ok-check_rounds_and_floor.was in
    handed-on _ c.from_residual-in_err-check_operations.ensures.1
    ∙ answers
    (list-refused _ _ _ _ _ _ right c.if-ops-gt-MAX_OPS.false
    (is-refused _ (sym c.in_err-check_operations.was ∙ c.check_operations.ensures)))

pub first_not_element-requires : goal.first_not_element-requires
first_not_element-requires c =
    let a = c.args in
    c.requires
    (list-fits a.nr a.floor a.room a.needed a.ops.now a.counters.now
    (is-done _ (sym c.in_ok-check_operations.was ∙ c.check_operations.ensures)))

pub returns-in-Some : goal.returns-in-Some
returns-in-Some c =
    let right = both-go-on c.args.nr c.args.floor c.check_rounds_and_floor.ensures c.in_ok-check_rounds_and_floor.was in
    let clear = is-done _ (sym c.in_ok-check_operations.was ∙ c.check_operations.ensures) in
    answers
    (counters-decide _ _ _ _ _ _ right c.if-ops-gt-MAX_OPS.false clear
    (at-yes NotElement accepted (place_at _ (sym c.in-Some.is ∙ c.first_not_element.ensures))))

pub returns : goal.returns
returns c =
    let right = both-go-on c.args.nr c.args.floor c.check_rounds_and_floor.ensures c.in_ok-check_rounds_and_floor.was in
    let clear = is-done _ (sym c.in_ok-check_operations.was ∙ c.check_operations.ensures) in
    accepts
    (counters-decide _ _ _ _ _ _ right c.if-ops-gt-MAX_OPS.false clear
    (at-no NotElement (place-nowhere _ (sym c.in_default.is ∙ c.first_not_element.ensures)) refl))
