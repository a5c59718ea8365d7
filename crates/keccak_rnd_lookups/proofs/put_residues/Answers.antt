-- `keccak_rnd_lookups::put_residues` meets its contract: the runs on one bus stand one behind the other.
use Rattle.keccak_rnd_lookups.proofs.Joins.{all-stored}
use Rattle.keccak_rnd_lookups.proofs.put_residues.Goals as goal

pub returns : goal.returns
returns c = all-stored _ _ c.put_first.ensures c.put_alu_lanes.ensures c.put_left.ensures c.put_alu_lanes-2.ensures c.put_rot.ensures c.put_alu_lanes-3.ensures
