-- `job::checks::adds_up` meets its contract: after i turns the sum of i counts and what is left are the rows.
use Rattle.job.specs.Report.{row_count}
use Rattle.job.proofs.Sums.{Left}
use Rattle.job.proofs.checks.adds_up.Given as goal

abbrev pub invariant-loop-i : goal.invariant-loop-i
invariant-loop-i l = Left (row_count l.counts l.k) l.n l.rows l.left l.i
