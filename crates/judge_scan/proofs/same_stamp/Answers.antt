-- `judge_scan::same_stamp` meets its contract: the low words decide, then the high ones.
use Rattle.judge_scan.proofs.Stamps.{low-apart, by_high}
use Rattle.judge_scan.proofs.same_stamp.Goals as goal

pub returns-then-x-y : goal.returns-then-x-y
returns-then-x-y c = low-apart _ _ c.if-x-y.true

pub returns : goal.returns
returns c = by_high _ _ c.if-x-y.false
