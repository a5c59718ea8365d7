use mathlib.Core.Path.{sym}
use native.Mathlib.Omega.{arith}
use borrow.Author.Tests.{lt-ltb, le-ltb}
use Rattle.lists.proofs.First.{first-start, at_more, any-hit, any_none}
use Rattle.month.proofs.any_past.Invariants.{past}
use Rattle.month.proofs.any_past.Goals as goal

pub loop-i-init : goal.loop-i-init
loop-i-init c = (omega arith, first-start _)

pub returns-then-counts-i-gt-MAX_OPS : goal.returns-then-counts-i-gt-MAX_OPS
returns-then-counts-i-gt-MAX_OPS c =
    sym (any-hit (past c.args.counts.now) c.loop-i.i _ c.loop-i-test.true c.loop-i.invariant.1 (lt-ltb _ _ c.if-counts-i-gt-MAX_OPS.true))

pub loop-i-preserved : goal.loop-i-preserved
loop-i-preserved c =
    (omega arith, at_more (past c.args.counts.now) c.loop-i.i c.loop-i.invariant.1 (le-ltb _ _ c.if-counts-i-gt-MAX_OPS.false))

pub returns : goal.returns
returns c = sym (any_none _ _ _ c.loop-i.invariant.0 c.loop-i-test.false c.loop-i.invariant.1)
