use mathlib.Core.Path.{ap, sym}
use Prim.Native.Nat.{◌-◌}
use native.Mathlib.Omega.{arith}
use borrow.Author.Tests.{le-leb, lt-leb}
use Rattle.lists.specs.First.{place_of}
use Rattle.lists.proofs.First.{first-start, at_more, at-hit, at_none}
use Rattle.field.specs.Elements.{not_element}
use Rattle.field.proofs.elements.scanned.Goals as goal

pub loop-k-init : goal.loop-k-init
loop-k-init c = (omega arith, first-start _)

pub returns-then-words-k-ge-P : goal.returns-then-words-k-ge-P
unfolding not_element
returns-then-words-k-ge-P c =
    let l = c.loop-k in
    sym (ap place_of (at-hit _ _ _ c.loop-k-test.true l.invariant.1 (le-leb _ _ c.if-words-k-ge-P.true)))

pub loop-k-preserved : goal.loop-k-preserved
unfolding not_element
loop-k-preserved c = (omega arith, at_more _ _ c.loop-k.invariant.1 (lt-leb _ _ c.if-words-k-ge-P.false))

pub returns : goal.returns
returns c = sym (ap place_of (at_none _ _ _ c.loop-k.invariant.0 c.loop-k-test.false c.loop-k.invariant.1))
