use mathlib.Core.Path.{ap, sym}
use native.Mathlib.Omega.{arith}
use borrow.Author.Tests.{lt-ltb, le-ltb}
use Rattle.lists.specs.First.{place_of}
use Rattle.lists.proofs.First.{first-start, at_more, at-hit, at_none}
use Rattle.operations.proofs.checks.first_above.Goals as goal

pub loop-i-init : goal.loop-i-init
loop-i-init c = (omega arith, first-start _)

pub returns-then-ops-i : goal.returns-then-ops-i
returns-then-ops-i c =
    let l = c.loop-i in
    sym (ap place_of (at-hit _ _ _ c.loop-i-test.true l.invariant.1 (lt-ltb _ _ c.if-ops-i.true)))

pub loop-i-preserved : goal.loop-i-preserved
loop-i-preserved c = (omega arith, at_more _ _ c.loop-i.invariant.1 (le-ltb _ _ c.if-ops-i.false))

pub returns : goal.returns
returns c = sym (ap place_of (at_none _ _ _ c.loop-i.invariant.0 c.loop-i-test.false c.loop-i.invariant.1))
