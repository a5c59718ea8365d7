use mathlib.Core.Path.{sym, ap}
use mathlib.Core.Bool.{not}
use native.Mathlib.Omega.{arith}
use borrow.Author.Tests.{eq-eqb, ne_eqb}
use Rattle.lists.proofs.First.{first-start, at_more, any-hit, any_none}
use Rattle.lists.specs.Select.{words_differ}
use Rattle.same_operations.proofs.compare.same_bytes.Goals as goal

pub loop-k-init : goal.loop-k-init
loop-k-init c = (omega arith, first-start _)

pub returns-then-bytes-a : goal.returns-then-bytes-a
unfolding words_differ
returns-then-bytes-a c = sym (ap not (any-hit _ _ _ c.loop-k-test.true c.loop-k.invariant.1 (ap not (ne_eqb _ _ c.if-bytes-a.true))))

pub loop-k-preserved : goal.loop-k-preserved
unfolding words_differ
loop-k-preserved c = (omega arith, at_more _ _ c.loop-k.invariant.1 (ap not (eq-eqb _ _ c.if-bytes-a.false)))

pub returns : goal.returns
returns c = sym (ap not (any_none _ _ _ c.loop-k.invariant.0 c.loop-k-test.false c.loop-k.invariant.1))
