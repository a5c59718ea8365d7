-- `bitwise_operations::checks::first_past` meets its contract: no lookup before the i-th is past its end.
use mathlib.Core.Path.{◌≡◌}
use mathlib.Core.Option.{none}
use Rattle.lists.specs.First.{first}
use Rattle.bitwise.specs.Lookups.{past_at}
use Rattle.bitwise_operations.proofs.checks.first_past.Given as goal

abbrev pub invariant-loop-i : goal.invariant-loop-i
invariant-loop-i l = first (past_at l.ops) l.i ≡ none
