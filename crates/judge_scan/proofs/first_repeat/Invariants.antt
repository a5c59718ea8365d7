-- `judge_scan::first_repeat` meets its contract: no row so far repeats, and the active ones have timestamps of at most the highest.
use Rattle.judge_scan.proofs.Stamps.{New}
use Rattle.judge_scan.proofs.first_repeat.Given as goal

abbrev pub invariant-loop-row : goal.invariant-loop-row
invariant-loop-row l = New l.core l.row l.top
