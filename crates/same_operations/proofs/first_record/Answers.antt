use mathlib.Core.Path.{sym, ap, ◌∙◌}
use native.Mathlib.Omega.{arith}
use Rattle.lists.specs.First.{place_of}
use Rattle.lists.proofs.First.{at_more, at-hit, at_none}
use Rattle.same_operations.specs.Same.{file_run}
use Rattle.same_operations.proofs.Scans.{stands-long, stands-next}
use Rattle.same_operations.proofs.Agree.{records-passed}
use Rattle.same_operations.proofs.Rising.{ahead_none}
use Rattle.same_operations.proofs.first_record.Goals as goal

pub loop-i-init : goal.loop-i-init
loop-i-init c = (omega (arith, c.requires.1, c.requires.0.stands.there), c.requires.0.stands, ahead_none _ _ _ c.requires.0.within, records-passed _ _ c.requires.0)

pub look-t-requires : goal.look-t-requires
look-t-requires c = (c.requires.0, c.loop-i.invariant.1, c.loop-i.auto.i, omega (arith, c.requires.1), c.loop-i.invariant.2)

pub returns-then-t : goal.returns-then-t
unfolding file_run
returns-then-t c = sym (ap place_of (at-hit _ _ _ (omega (arith, c.requires.1)) c.loop-i.invariant.3 (sym c.look-t.ensures.0 ∙ c.if-t.true)))

pub next_start-from-requires : goal.next_start-from-requires
next_start-from-requires c = stands-long _ c.loop-i.invariant.1 (omega (arith, c.requires.1))

pub loop-i-preserved : goal.loop-i-preserved
loop-i-preserved c = (omega arith, stands-next _ c.loop-i.invariant.1 (omega (arith, c.requires.1)) c.next_start-from.ensures, c.look-t.ensures.1, at_more _ _ c.loop-i.invariant.3 (sym c.look-t.ensures.0 ∙ c.if-t.false))

pub returns : goal.returns
unfolding file_run
returns c = sym (ap place_of (at_none _ _ _ (omega (arith, c.requires.1)) (omega (arith, c.requires.1)) c.loop-i.invariant.3))
