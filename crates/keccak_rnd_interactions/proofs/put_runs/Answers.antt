-- `keccak_rnd_interactions::put_runs` meets its contract: the runs on one bus stand one behind the other.
use Rattle.keccak_rnd_interactions.proofs.Words.{all-stored}
use Rattle.keccak_rnd_interactions.proofs.put_runs.Goals as goal

pub returns : goal.returns
returns c = all-stored _ _ c.put_first.ensures c.put_alu_lanes.ensures c.put_left.ensures c.put_alu_lanes-2.ensures c.put_rot.ensures c.put_alu_lanes-3.ensures
