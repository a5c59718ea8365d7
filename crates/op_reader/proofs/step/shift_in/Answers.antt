-- `step::shift_in` meets its contract: a byte comes in from the top.
use Rattle.op_file.specs.Reader.{shifted}
use native.Mathlib.Omega.{arith}
use Rattle.op_reader.proofs.step.shift_in.Goals as goal

pub returns : goal.returns
unfolding shifted
returns c = omega arith
