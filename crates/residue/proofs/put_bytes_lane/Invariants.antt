-- `residue::put_bytes_lane` meets its contract: after z turns the first z residues are stored.
use Rattle.lists.proofs.Laws.{Filled}
use Rattle.byte_tuples.specs.Lanes.{bytes_lane}
use Rattle.residue.specs.Residue.{residues}
use Rattle.residue.proofs.put_bytes_lane.Given as goal

abbrev pub invariant-loop-z : goal.invariant-loop-z
invariant-loop-z l = Filled l.initial.out l.at 8 (residues (bytes_lane l.row l.a l.b)) l.out l.z
