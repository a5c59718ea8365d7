-- `judge_scan::width_of` meets its contract, arm by arm.
use Rattle.judge_scan.specs.Tables.{layout_of}
use Rattle.judge_scan.proofs.Scan.{told-width}
use Rattle.judge_scan.proofs.width_of.Goals as goal

pub returns-in-Core : goal.returns-in-Core
unfolding layout_of
returns-in-Core c = told-width c.in-Core.is

pub returns-in-Round : goal.returns-in-Round
unfolding layout_of
returns-in-Round c = told-width c.in-Round.is
