-- `tally_arguments::read_floor` meets its contract: what is left of the word says of it what the whole word does.
use native.Mathlib.Omega.{arith}
use mathlib.Core.Path.{sym, ◌∙◌}
use Rattle.tally_arguments.proofs.Laws.{reads-start, reads_more, reads_other, reads-large, reads_all, is_digit_lem}
use Rattle.tally_arguments.proofs.read_floor.Goals as goal

pub loop-i-init : goal.loop-i-init
loop-i-init c = reads-start _

pub returns-then-not-is_digit : goal.returns-then-not-is_digit
returns-then-not-is_digit c =
    reads_other c.loop-i.invariant c.loop-i-test.true (sym c.is_digit.ensures ∙ c.if-not-is_digit.true)

pub overflow_sub-digit : goal.overflow_sub-digit
overflow_sub-digit c = (is_digit_lem _ (sym c.is_digit.ensures ∙ c.if-not-is_digit.false)).0

pub overflow_cast-digit : goal.overflow_cast-digit
overflow_cast-digit c = let d = is_digit_lem _ (sym c.is_digit.ensures ∙ c.if-not-is_digit.false) in omega arith

pub overflow_sub-digit-in-loop-i : goal.overflow_sub-digit-in-loop-i
overflow_sub-digit-in-loop-i c = let d = is_digit_lem _ (sym c.is_digit.ensures ∙ c.if-not-is_digit.false) in omega arith

pub returns-then-value-digit : goal.returns-then-value-digit
returns-then-value-digit c =
    let d = is_digit_lem _ (sym c.is_digit.ensures ∙ c.if-not-is_digit.false) in
    reads-large c.loop-i.invariant c.loop-i-test.true (omega arith)

pub overflow_mul-value : goal.overflow_mul-value
overflow_mul-value c = let d = is_digit_lem _ (sym c.is_digit.ensures ∙ c.if-not-is_digit.false) in omega arith

pub overflow_add-value : goal.overflow_add-value
overflow_add-value c = let d = is_digit_lem _ (sym c.is_digit.ensures ∙ c.if-not-is_digit.false) in omega arith

pub loop-i-preserved : goal.loop-i-preserved
loop-i-preserved c =
    let known = sym c.is_digit.ensures ∙ c.if-not-is_digit.false in
    let d = is_digit_lem _ known in
    reads_more c.loop-i.invariant c.loop-i-test.true known (omega arith)

pub returns : goal.returns
returns c = reads_all c.loop-i.invariant c.loop-i-test.false
