-- `judge_bus::first_port` meets its contract, arm by arm.
use Rattle.judge_bus.specs.Order.{first_port}
use Rattle.judge_bus.proofs.Bus.{told-first}
use Rattle.judge_bus.proofs.first_port.Goals as goal

pub returns-in-Core : goal.returns-in-Core
unfolding first_port
returns-in-Core c = told-first c.in-Core.is _

pub returns-in-Round : goal.returns-in-Round
unfolding first_port
returns-in-Round c = told-first c.in-Round.is _
