-- `step::take_byte` meets its contract: each part takes the byte.
use Rattle.op_file.specs.Reader.{taken}
use Rattle.op_reader.proofs.step.take_byte.Goals as goal

pub returns : goal.returns
unfolding taken
returns c = cc
