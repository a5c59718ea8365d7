use mathlib.Core.Path.{sym, ap, ◌∙◌}
use native.Mathlib.Omega.{arith}
use Rattle.lists.specs.First.{place_of}
use Rattle.lists.proofs.First.{at_more, at-hit, at_none}
use Rattle.same_operations.specs.Same.{core_run}
use Rattle.same_operations.proofs.Agree.{rows-passed}
use Rattle.same_operations.proofs.first_row.Goals as goal

pub loop-r-init : goal.loop-r-init
loop-r-init c = (omega arith, c.requires.0.within, rows-passed _ _ c.requires.0)

pub row_alone-requires : goal.row_alone-requires
row_alone-requires c = (c.requires.0, c.requires.1, c.loop-r.invariant.0, c.loop-r-test.true)

pub returns-then-row_alone : goal.returns-then-row_alone
unfolding core_run
returns-then-row_alone c = sym (ap place_of (at-hit _ _ _ c.loop-r-test.true c.loop-r.invariant.2 (sym c.row_alone.ensures ∙ c.if-row_alone.true)))

pub loop-r-preserved : goal.loop-r-preserved
loop-r-preserved c = (omega arith, omega arith, at_more _ _ c.loop-r.invariant.2 (sym c.row_alone.ensures ∙ c.if-row_alone.false))

pub returns : goal.returns
unfolding core_run
returns c = sym (ap place_of (at_none _ _ _ c.loop-r.invariant.1 c.loop-r-test.false c.loop-r.invariant.2))
