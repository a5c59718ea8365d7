-- `bitwise_operations::checks::first_not_byte` meets its contract: the bytes of every lookup before the i-th are bytes.
use mathlib.Core.Path.{◌≡◌}
use mathlib.Core.Option.{none}
use Rattle.lists.specs.First.{first}
use Rattle.bitwise.specs.Lookups.{not_byte_at}
use Rattle.bitwise_operations.proofs.checks.first_not_byte.Given as goal

abbrev pub invariant-loop-i : goal.invariant-loop-i
invariant-loop-i l = first (not_byte_at l.ops) l.i ≡ none
