-- `byte_tuples::op_number` meets its contract: each operation by its number.
use mathlib.Core.Path.{sym, ap}
use Rattle.byte_tuples.specs.Lanes.{op_number}
use Rattle.byte_tuples.proofs.op_number.Goals as goal

pub returns-in-And : goal.returns-in-And
unfolding op_number
returns-in-And c = sym (ap op_number c.in-And.is)

pub returns-in-Xor : goal.returns-in-Xor
unfolding op_number
returns-in-Xor c = sym (ap op_number c.in-Xor.is)
