-- `field::Wide::product` meets its contract: no column passes a word, and the columns make the product.
use native.Mathlib.Omega.{arith}
use Rattle.field.proofs.Product.{whole, times, low-lt, high_lt}
use Rattle.field.proofs.Wide.product.Goals as goal

pub overflow_mul-w0 : goal.overflow_mul-w0
overflow_mul-w0 c = omega (arith, times (low-lt c.args.a) (low-lt c.args.b))

pub overflow_mul-t : goal.overflow_mul-t
overflow_mul-t c = omega (arith, times (high_lt c.args.a c.ranges.a.fits) (low-lt c.args.b))

pub overflow_add-t : goal.overflow_add-t
overflow_add-t c = omega (arith, times (high_lt c.args.a c.ranges.a.fits) (low-lt c.args.b), times (low-lt c.args.a) (low-lt c.args.b))

pub overflow_mul-w1 : goal.overflow_mul-w1
overflow_mul-w1 c = omega (arith, times (low-lt c.args.a) (high_lt c.args.b c.ranges.b.fits))

pub overflow_add-w1 : goal.overflow_add-w1
overflow_add-w1 c = omega (arith, times (low-lt c.args.a) (high_lt c.args.b c.ranges.b.fits))

pub overflow_mul-result : goal.overflow_mul-result
overflow_mul-result c = omega (arith, times (high_lt c.args.a c.ranges.a.fits) (high_lt c.args.b c.ranges.b.fits))

pub overflow_add-result : goal.overflow_add-result
overflow_add-result c =
    omega (
      arith,
      times (high_lt c.args.a c.ranges.a.fits) (high_lt c.args.b c.ranges.b.fits),
      times (high_lt c.args.a c.ranges.a.fits) (low-lt c.args.b),
      times (low-lt c.args.a) (low-lt c.args.b),
    )

pub overflow_add-result-2 : goal.overflow_add-result-2
overflow_add-result-2 c =
    omega (
      arith,
      times (high_lt c.args.a c.ranges.a.fits) (high_lt c.args.b c.ranges.b.fits),
      times (high_lt c.args.a c.ranges.a.fits) (low-lt c.args.b),
      times (low-lt c.args.a) (high_lt c.args.b c.ranges.b.fits),
      times (low-lt c.args.a) (low-lt c.args.b),
    )

pub returns : goal.returns
returns c = whole c.args.a c.args.b
