-- `judge_bus::second_port` meets its contract, arm by arm.
use Rattle.judge_bus.specs.Order.{second_port}
use Rattle.judge_bus.proofs.Bus.{told-second}
use Rattle.judge_bus.proofs.second_port.Goals as goal

pub returns-in-Core : goal.returns-in-Core
unfolding second_port
returns-in-Core c = told-second c.in-Core.is

pub returns-in-Round : goal.returns-in-Round
unfolding second_port
returns-in-Round c = told-second c.in-Round.is
