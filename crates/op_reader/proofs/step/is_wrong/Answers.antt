-- `step::is_wrong` meets its contract: the two bytes of a mark.
use Rattle.op_file.specs.Reader.{wrong}
use borrow.Author.Tests.{eq-eqb, ne_eqb}
use mathlib.Core.Bool.{not}
use mathlib.Core.Path.{ap}
use Rattle.op_reader.proofs.step.is_wrong.Goals as goal

pub returns-then-at-eq0 : goal.returns-then-at-eq0
unfolding wrong
returns-then-at-eq0 c = simp (eq-eqb _ _ c.if-at-eq0.true)

pub returns-then-at-eq1 : goal.returns-then-at-eq1
unfolding wrong
returns-then-at-eq1 c = simp (ne_eqb _ _ c.if-at-eq0.false, eq-eqb _ _ c.if-at-eq1.true) (ap not c.is_mark.ensures)

pub returns : goal.returns
unfolding wrong
returns c = simp (ne_eqb _ _ c.if-at-eq0.false, ne_eqb _ _ c.if-at-eq1.false)
