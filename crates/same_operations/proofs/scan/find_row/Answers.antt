use mathlib.Core.Path.{sym, ap, ◌∙◌}
use native.Mathlib.Omega.{arith}
use Rattle.lists.specs.First.{place_of}
use Rattle.lists.proofs.First.{at_more, at-hit, at_none}
use Rattle.same_operations.proofs.Rising.{from_start, from_is}
use Rattle.same_operations.proofs.scan.find_row.Goals as goal

pub loop-r-init : goal.loop-r-init
loop-r-init c = (omega arith, c.requires.0, from_start _ _)

pub has_record-requires : goal.has_record-requires
has_record-requires c = (c.loop-r-test.true, c.requires.1, c.word_at-stamp.ensures)

pub returns-then-has_record : goal.returns-then-has_record
returns-then-has_record c = sym (ap place_of (at-hit _ _ _ c.loop-r-test.true c.loop-r.invariant.2 (sym (from_is _ _ _ c.loop-r.invariant.0 c.has_record.ensures) ∙ c.if-has_record.true)))

pub loop-r-preserved : goal.loop-r-preserved
loop-r-preserved c = (omega arith, omega arith, at_more _ _ c.loop-r.invariant.2 (sym (from_is _ _ _ c.loop-r.invariant.0 c.has_record.ensures) ∙ c.if-has_record.false))

pub returns : goal.returns
returns c = sym (ap place_of (at_none _ _ _ c.loop-r.invariant.1 c.loop-r-test.false c.loop-r.invariant.2))
