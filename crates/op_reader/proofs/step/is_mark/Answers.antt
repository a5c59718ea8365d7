-- `step::is_mark` meets its contract: the second bytes of both marks.
use Rattle.op_file.specs.File.{is_mark}
use borrow.Author.Tests.{eq-eqb, ne_eqb}
use Rattle.op_reader.proofs.step.is_mark.Goals as goal

pub returns-then-b-eq-PLAIN_MARK : goal.returns-then-b-eq-PLAIN_MARK
unfolding is_mark
returns-then-b-eq-PLAIN_MARK c = simp (eq-eqb _ _ c.if-b-eq-PLAIN_MARK.true)

pub returns : goal.returns
unfolding is_mark
returns c = simp (ne_eqb _ _ c.if-b-eq-PLAIN_MARK.false)
