-- `judge_bus::first_unbalanced` meets its contract: no row before this one has an unbalanced tuple.
use Rattle.judge_bus.proofs.Bus.{Clear}
use Rattle.judge_bus.proofs.first_unbalanced.Given as goal

abbrev pub invariant-loop-row : goal.invariant-loop-row
invariant-loop-row l = Clear l.nr l.core l.round l.table l.words l.row
