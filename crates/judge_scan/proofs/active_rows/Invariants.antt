-- `judge_scan::active_rows` meets its contract: n of the first rows are active.
use mathlib.Core.Path.{◌≡◌}
use Rattle.lists.specs.First.{count_below}
use Rattle.verdict.specs.Kind.{active}
use Rattle.judge_scan.specs.Tables.{layout_of}
use Rattle.judge_scan.proofs.active_rows.Given as goal

abbrev pub invariant-loop-row : goal.invariant-loop-row
invariant-loop-row l = l.n ≡ count_below (active (layout_of l.table) l.words) l.row
