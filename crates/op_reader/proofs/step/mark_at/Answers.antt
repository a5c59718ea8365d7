-- `step::mark_at` meets its contract: the second byte, and what it was.
use borrow.Author.Tests.{eq-eqb, ne_eqb}
use Rattle.op_reader.proofs.step.mark_at.Goals as goal

pub returns-then-at-eq1 : goal.returns-then-at-eq1
returns-then-at-eq1 c = simp (eq-eqb _ _ c.if-at-eq1.true) c.wide.ensures

pub returns : goal.returns
returns c = simp (ne_eqb _ _ c.if-at-eq1.false)
