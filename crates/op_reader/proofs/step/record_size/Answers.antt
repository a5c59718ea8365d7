-- `step::record_size` meets its contract: the two lengths.
use Rattle.op_file.specs.File.{record_size}
use Rattle.op_reader.proofs.step.record_size.Goals as goal

pub returns-then-marked : goal.returns-then-marked
unfolding record_size
returns-then-marked c = simp c.if-marked.true

pub returns-else-marked : goal.returns-else-marked
unfolding record_size
returns-else-marked c = simp c.if-marked.false
