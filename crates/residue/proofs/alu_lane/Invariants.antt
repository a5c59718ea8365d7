-- `residue::alu_lane` meets its contract: after z turns the first z residues are there.
use Rattle.byte_tuples.specs.Lanes.{op_number, alu_lane}
use Rattle.lists.proofs.Laws.{Filled}
use Rattle.residue.specs.Residue.{residues}
use Rattle.residue.proofs.alu_lane.Given as goal

abbrev pub invariant-loop-z : goal.invariant-loop-z
invariant-loop-z l = Filled l.initial.lane 0 8 (residues (alu_lane l.multiplicity (op_number l.op) l.a l.b l.row l.c)) l.lane l.z
