-- `judge_tuples::lane_at` meets its contract, arm by arm.
use mathlib.Core.Path.{sym, ap}
use Rattle.judge_tuples.specs.Port.{lane_at}
use Rattle.judge_tuples.proofs.lane_at.Goals as goal

pub returns-in-CoreSend : goal.returns-in-CoreSend
unfolding lane_at
returns-in-CoreSend c = sym (ap lane_at c.in-CoreSend.is)

pub returns-in-CoreReceive : goal.returns-in-CoreReceive
unfolding lane_at
returns-in-CoreReceive c = sym (ap lane_at c.in-CoreReceive.is)

pub returns-in-RoundReceive : goal.returns-in-RoundReceive
unfolding lane_at
returns-in-RoundReceive c = sym (ap lane_at c.in-RoundReceive.is)

pub returns-in-RoundSend : goal.returns-in-RoundSend
unfolding lane_at
returns-in-RoundSend c = sym (ap lane_at c.in-RoundSend.is)
