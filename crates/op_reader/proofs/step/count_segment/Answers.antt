-- `step::count_segment` meets its contract: the mark is kept, the two numbers are compared.
use Rattle.op_file.specs.Reader.{counted}
use Rattle.op_reader.proofs.step.count_segment.Goals as goal

pub returns-then-marked : goal.returns-then-marked
unfolding counted
returns-then-marked c = simp c.if-marked.true (cc)

pub returns : goal.returns
unfolding counted
returns c = simp c.if-marked.false (cc)
