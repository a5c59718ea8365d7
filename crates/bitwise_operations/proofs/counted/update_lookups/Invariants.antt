-- `bitwise_operations::counted::update_lookups` meets its contract: after i turns the first i lookups are counted.
use mathlib.Core.Path.{◌≡◌}
use Rattle.bitwise.specs.Lookups.{charge_each, lookup_counter, mu_at}
use Rattle.bitwise_operations.proofs.counted.update_lookups.Given as goal

abbrev pub invariant-loop-i : goal.invariant-loop-i
invariant-loop-i l = l.table ≡ charge_each (λ i. mu_at (lookup_counter l.ops i)) l.i l.initial.table
