-- `residue::alu_residue` meets its contract, operation by operation.
use Rattle.byte_tuples.specs.Lanes.{op_number}
use Rattle.residue.proofs.Stored.{of-op}
use Rattle.residue.proofs.alu_residue.Goals as goal

pub returns-in-And : goal.returns-in-And
unfolding op_number
returns-in-And c = of-op _ _ _ _ c.in-And.is c.and_residue.ensures

pub returns-in-Xor : goal.returns-in-Xor
unfolding op_number
returns-in-Xor c = of-op _ _ _ _ c.in-Xor.is c.xor_residue.ensures
