-- `residue::put_alu_lane` meets its contract: the lane is made, then stored.
use Rattle.residue.proofs.Stored.{lane-stored}
use Rattle.residue.proofs.put_alu_lane.Goals as goal

pub returns : goal.returns
returns c = lane-stored _ _ _ c.alu_lane-lane.ensures c.put_words.ensures
