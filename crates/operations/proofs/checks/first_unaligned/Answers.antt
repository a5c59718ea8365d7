use mathlib.Core.Path.{ap, sym}
use mathlib.Core.Bool.{not}
use native.Mathlib.Omega.{arith}
use borrow.Author.Tests.{ne_eqb, eq-eqb}
use Rattle.lists.specs.First.{place_of}
use Rattle.lists.proofs.First.{first-start, at_more, at-hit, at_none}
use Rattle.keccak.specs.Row.{op_at}
use Rattle.keccak.specs.Refusals.{unaligned_at}
use Rattle.operations.proofs.checks.first_unaligned.Goals as goal

pub loop-i-init : goal.loop-i-init
loop-i-init c = (omega arith, first-start _)

pub returns-then-ops-i-ne0 : goal.returns-then-ops-i-ne0
unfolding unaligned_at op_at
returns-then-ops-i-ne0 c =
    let l = c.loop-i in
    sym (ap place_of (at-hit _ _ _ c.loop-i-test.true l.invariant.1 (ap not (ne_eqb _ _ c.if-ops-i-ne0.true))))

pub loop-i-preserved : goal.loop-i-preserved
unfolding unaligned_at op_at
loop-i-preserved c = (omega arith, at_more _ _ c.loop-i.invariant.1 (ap not (eq-eqb _ _ c.if-ops-i-ne0.false)))

pub returns : goal.returns
returns c = sym (ap place_of (at_none _ _ _ c.loop-i.invariant.0 c.loop-i-test.false c.loop-i.invariant.1))
