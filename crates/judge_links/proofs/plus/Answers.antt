-- `judge_links::plus` meets its contract.
use Rattle.judge_links.proofs.Counting.{one_more, no_more}
use Rattle.judge_links.proofs.plus.Goals as goal

pub returns-then-one : goal.returns-then-one
returns-then-one c = one_more _ _ c.if-one.true

pub returns : goal.returns
returns c = no_more _ _ c.if-one.false
