-- `bitwise_operations::counted::update_multiplicities` meets its contract: the counter that was found is one of the table's.
use mathlib.Core.Path.{sym, ◌∙◌}
use Rattle.lists.proofs.First.{place_at, at-found}
use Rattle.bitwise.specs.Counters.{large_charged}
use Rattle.bitwise_operations.proofs.counted.update_multiplicities.Goals as goal

pub mu_at-requires : goal.mu_at-requires
mu_at-requires c = (at-found (large_charged _ _) _ _ (place_at _ (sym c.in-Some-first_mu.is ∙ c.first_mu.ensures))).0
