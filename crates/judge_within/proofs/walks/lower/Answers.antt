-- `judge_within::walks::lower` meets its contract.
use Rattle.judge_within.proofs.Steps.{lower-off, lower-new, lower-old}
use Rattle.judge_within.proofs.walks.lower.Goals as goal

pub returns-then-not-counts : goal.returns-then-not-counts
returns-then-not-counts c = let a = c.args in lower-off a.least a.p a.counts c.if-not-counts.true

pub returns-then-p-least : goal.returns-then-p-least
returns-then-p-least c = let a = c.args in lower-new a.least a.p a.counts c.if-not-counts.false c.if-p-least.true

pub returns : goal.returns
returns c = let a = c.args in lower-old a.least a.p a.counts c.if-not-counts.false c.if-p-least.false
