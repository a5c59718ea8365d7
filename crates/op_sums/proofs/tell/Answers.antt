-- `op_sums::tell` meets its contract: the two cases.
use Rattle.op_file.specs.File.{told}
use borrow.Author.Tests.{eq-eqb, ne_eqb}
use Rattle.op_sums.proofs.tell.Goals as goal

pub returns-then-s-eq0 : goal.returns-then-s-eq0
unfolding told
returns-then-s-eq0 c = simp (eq-eqb _ _ c.if-s-eq0.true)

pub returns : goal.returns
unfolding told
returns c = simp (ne_eqb _ _ c.if-s-eq0.false)
