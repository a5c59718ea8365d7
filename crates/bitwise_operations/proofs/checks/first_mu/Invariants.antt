-- `bitwise_operations::checks::first_mu` meets its contract: after i turns the first of the multiplicities of i lookups is found.
use Rattle.lists.specs.Tab.{word}
use Rattle.bitwise.specs.Lookups.{mu_at}
use Rattle.bitwise_operations.proofs.Charging.{Searched}
use Rattle.bitwise_operations.proofs.checks.first_mu.Given as goal

abbrev pub invariant-loop-i : goal.invariant-loop-i
invariant-loop-i l = Searched l.ops (λ c. word l.table (mu_at c)) l.i l.least
