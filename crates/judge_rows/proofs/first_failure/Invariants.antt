-- `judge_rows::first_failure` meets its contract: nothing is found in the rows before this one, and in this one nothing
-- before the index.
use mathlib.Core.Path.{◌≡◌}
use lib.ListN.{length}
use Rattle.judge_rows.proofs.Rows.{Clear, ClearTo}
use Rattle.judge_rows.proofs.first_failure.Given as goal

abbrev pub invariant-loop-row : goal.invariant-loop-row
invariant-loop-row l = Clear l.table l.check l.words l.row × (length l.checks ≡ 1031)

abbrev pub invariant-loop-index : goal.invariant-loop-index
invariant-loop-index l = ClearTo l.table l.check l.words l.row l.index
