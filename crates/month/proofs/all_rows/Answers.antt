use Prim.Native.Nat.{ℕ, ◌^◌, ◌≤◌, ◌<◌}
use native.Mathlib.Omega.{arith}
use lib.ListN.{length}
use Rattle.month.specs.Month.{total_at}
use Rattle.month.proofs.Heights.{total-most}
use Rattle.month.proofs.Totals.{sum-none, sum_more, sum-all, sum-most}
use Rattle.month.proofs.all_rows.Goals as goal

pub loop-i-init : goal.loop-i-init
loop-i-init c = (omega arith, sum-none _)

pub rows_of-rows-requires : goal.rows_of-rows-requires
rows_of-rows-requires c =
    let p = c.requires in
    (p.most-rounds, p.power, p.each _ c.loop-i-test.true)

pub overflow_add-sum : goal.overflow_add-sum
overflow_add-sum c =
    let p = c.requires in
    let t = c.loop-i-test.true in
    let most : (k : ℕ) → k < length c.args.counts.now → total_at c.args.nr c.args.floor c.args.counts.now k ≤ 2 ^ 31 = λ k b. total-most _ _ _ p.most-rounds p.power (p.each k b) in
    omega (arith, sum-most c.loop-i.i (2 ^ 31) (total_at c.args.nr c.args.floor c.args.counts.now) (λ k b. most k (omega (arith, b, t))), most c.loop-i.i t, c.rows_of-rows.ensures.1, p.few)

pub loop-i-preserved : goal.loop-i-preserved
loop-i-preserved c = (omega arith, sum_more _ _ c.loop-i.invariant.1 c.rows_of-rows.ensures.1)

pub returns : goal.returns
returns c = sum-all _ _ _ c.loop-i.invariant.1 c.loop-i.invariant.0 c.loop-i-test.false
