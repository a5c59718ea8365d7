use mathlib.Core.Path.{refl}
use native.Mathlib.Omega.{arith}
use Rattle.lists.specs.Tab.{word}
use Rattle.answer.specs.Limits.{MAX-OPS}
use Rattle.month.specs.Month.{operations_of}
use Rattle.month.proofs.Totals.{sum-none, sum_more, sum-all, sum-most}
use Rattle.month.proofs.all_operations.Goals as goal

pub loop-i-init : goal.loop-i-init
loop-i-init c = (omega arith, sum-none _)

pub overflow_add-sum : goal.overflow_add-sum
overflow_add-sum c =
    let h = c.requires.1 in
    let t = c.loop-i-test.true in
    omega (arith, sum-most c.loop-i.i MAX-OPS (word c.args.counts.now) (λ k b. h k (omega (arith, b, t))), h c.loop-i.i t, c.requires.0)

pub loop-i-preserved : goal.loop-i-preserved
loop-i-preserved c = (omega arith, sum_more _ _ c.loop-i.invariant.1 refl)

pub returns : goal.returns
unfolding operations_of
returns c = sum-all _ _ _ c.loop-i.invariant.1 c.loop-i.invariant.0 c.loop-i-test.false
