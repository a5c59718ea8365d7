-- `judge_links::received_by` meets its contract, arm by arm.
use Rattle.judge_links.specs.Counting.{received_by}
use Rattle.judge_links.proofs.Counting.{told-received}
use Rattle.judge_links.proofs.received_by.Goals as goal

pub returns-in-Core : goal.returns-in-Core
unfolding received_by
returns-in-Core c = told-received c.in-Core.is

pub returns-in-Round : goal.returns-in-Round
unfolding received_by
returns-in-Round c = told-received c.in-Round.is
