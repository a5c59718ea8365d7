use mathlib.Core.Path.{sym}
use Rattle.job.specs.Report.{row_count, adds_up}
use Rattle.job.proofs.Sums.{left-none, left-more, left_over, left-all}
use Rattle.job.proofs.checks.adds_up.Goals as goal

pub loop-i-init : goal.loop-i-init
loop-i-init c = left-none

pub returns-then-count-left : goal.returns-then-count-left
unfolding adds_up row_count
returns-then-count-left c = sym (left_over c.loop-i.invariant c.loop-i-test.true c.if-count-left.true)

pub loop-i-preserved : goal.loop-i-preserved
unfolding row_count
loop-i-preserved c = left-more c.loop-i.invariant c.loop-i-test.true c.if-count-left.false

pub returns : goal.returns
unfolding adds_up
returns c = left-all c.loop-i.invariant c.loop-i-test.false
