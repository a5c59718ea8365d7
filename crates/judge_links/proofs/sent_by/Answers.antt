-- `judge_links::sent_by` meets its contract, arm by arm.
use Rattle.judge_links.specs.Counting.{sent_by}
use Rattle.judge_links.proofs.Counting.{told-sent}
use Rattle.judge_links.proofs.sent_by.Goals as goal

pub returns-in-Core : goal.returns-in-Core
unfolding sent_by
returns-in-Core c = told-sent _ c.in-Core.is

pub returns-in-Round : goal.returns-in-Round
unfolding sent_by
returns-in-Round c = told-sent _ c.in-Round.is
