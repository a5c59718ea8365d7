-- `bitwise_operations::counted::add_lookups` meets its contract: after i turns the first i lookups are counted.
use mathlib.Core.Path.{◌≡◌}
use Rattle.bitwise.specs.Lookups.{charge_each, lookup_counter}
use Rattle.bitwise_operations.proofs.counted.add_lookups.Given as goal

abbrev pub invariant-loop-i : goal.invariant-loop-i
invariant-loop-i l = l.counters ≡ charge_each (lookup_counter l.ops) l.i l.initial.counters
