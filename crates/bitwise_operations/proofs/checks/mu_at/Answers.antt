-- `bitwise_operations::checks::mu_at` meets its contract: the multiplicities stand behind the fixed columns, in the order of the kinds.
use mathlib.Core.Path.{sym}
use Rattle.bitwise.proofs.Lookups.{mu-is}
use Rattle.bitwise_operations.proofs.checks.mu_at.Goals as goal

pub returns : goal.returns
returns c = sym (mu-is c.args.i)
