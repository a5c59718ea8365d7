-- `judge_tuples::rest_at` meets its contract, arm by arm.
use mathlib.Core.Path.{sym, ap}
use Rattle.judge_tuples.specs.Port.{rest_at}
use Rattle.judge_tuples.proofs.rest_at.Goals as goal

pub returns-in-CoreSend : goal.returns-in-CoreSend
unfolding rest_at
returns-in-CoreSend c = sym (ap rest_at c.in-CoreSend.is)

pub returns-in-CoreReceive : goal.returns-in-CoreReceive
unfolding rest_at
returns-in-CoreReceive c = sym (ap rest_at c.in-CoreReceive.is)

pub returns-in-RoundReceive : goal.returns-in-RoundReceive
unfolding rest_at
returns-in-RoundReceive c = sym (ap rest_at c.in-RoundReceive.is)

pub returns-in-RoundSend : goal.returns-in-RoundSend
unfolding rest_at
returns-in-RoundSend c = sym (ap rest_at c.in-RoundSend.is)
