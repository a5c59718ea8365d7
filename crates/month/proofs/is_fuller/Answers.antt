-- `month::is_fuller` meets its contract: two products of at most 2^62.
use mathlib.Core.Path.{ap₂}
use Prim.Native.Nat.{◌*◌}
use native.Mathlib.Omega.{arith}
use lib.Dec.{ltb}
use Rattle.month.specs.Month.{fuller}
use Rattle.month.proofs.Heights.{product-fits}
use Rattle.month.proofs.is_fuller.Goals as goal

pub overflow_mul-result : goal.overflow_mul-result
overflow_mul-result c =
    omega (arith, product-fits c.args.nr c.args.floor c.args.m c.args.n c.requires.0 c.requires.1 c.requires.3 c.requires.2 c.rows_of-b.ensures.0 c.rows_of-a.ensures.1)

pub overflow_mul-result-2 : goal.overflow_mul-result-2
overflow_mul-result-2 c =
    omega (arith, product-fits c.args.nr c.args.floor c.args.n c.args.m c.requires.0 c.requires.1 c.requires.2 c.requires.3 c.rows_of-a.ensures.0 c.rows_of-b.ensures.1)

pub returns : goal.returns
unfolding fuller
returns c =
    ap₂ ltb (ap₂ ◌*◌ c.rows_of-b.ensures.0 c.rows_of-a.ensures.1) (ap₂ ◌*◌ c.rows_of-a.ensures.0 c.rows_of-b.ensures.1)
