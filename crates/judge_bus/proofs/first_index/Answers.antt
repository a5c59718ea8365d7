-- `judge_bus::first_index` meets its contract, arm by arm.
use Rattle.judge_bus.specs.Order.{first_index}
use Rattle.judge_bus.proofs.Bus.{told-index}
use Rattle.judge_bus.proofs.first_index.Goals as goal

pub returns-in-Core : goal.returns-in-Core
unfolding first_index
returns-in-Core c = told-index c.in-Core.is

pub returns-in-Round : goal.returns-in-Round
unfolding first_index
returns-in-Round c = told-index c.in-Round.is
