-- `bitwise_operations::checks::first_counter` meets its contract: after i turns the first of the counters of i lookups is found.
use Rattle.lists.specs.Tab.{word}
use Rattle.bitwise_operations.proofs.Charging.{Searched}
use Rattle.bitwise_operations.proofs.checks.first_counter.Given as goal

abbrev pub invariant-loop-i : goal.invariant-loop-i
invariant-loop-i l = Searched l.ops (word l.counters) l.i l.least
