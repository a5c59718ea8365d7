-- `is_wh_counts::checks::lower_by_rows` meets its contract: after i turns the first i rows are searched.
use mathlib.Core.Path.{◌≡◌}
use Prim.Native.Nat.{◌≤◌}
use Rattle.is_wh_counts.specs.Steps.{lower_by_rows}
use Rattle.is_wh_counts.proofs.checks.lower_by_rows.Given as goal

abbrev pub invariant-loop-i : goal.invariant-loop-i
invariant-loop-i l = (l.i ≤ l.n) × (l.least ≡ lower_by_rows l.rows l.counters l.i)
