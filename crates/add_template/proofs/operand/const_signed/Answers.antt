-- `const_signed` meets its contract: the number itself, or p - 1 less -1 - v.
use Rattle.add_template.proofs.Signed.{positive-held, negative-held, negative-again}
use Rattle.add_template.proofs.operand.const_signed.Goals as goal

pub overflow_cast-result : goal.overflow_cast-result
overflow_cast-result c = (positive-held _ c.ranges.v c.if-v-ge0.true).cast

pub returns-then-v-ge0 : goal.returns-then-v-ge0
returns-then-v-ge0 c = let r = positive-held _ c.ranges.v c.if-v-ge0.true in record { constant = r.is; below = r.below }

pub overflow_sub-least : goal.overflow_sub-least
overflow_sub-least c = (negative-held _ c.ranges.v c.if-v-ge0.false).fits

pub overflow_cast-result-2 : goal.overflow_cast-result-2
overflow_cast-result-2 c = (negative-again _ c.ranges.v c.if-v-ge0.false).cast

pub overflow_sub-result-2 : goal.overflow_sub-result-2
overflow_sub-result-2 c = (negative-again _ c.ranges.v c.if-v-ge0.false).small

pub returns : goal.returns
returns c = let r = negative-again _ c.ranges.v c.if-v-ge0.false in record { constant = r.is; below = r.below }
