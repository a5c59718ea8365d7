-- `keccak_rnd_operands::rot_lane` meets its contract: the columns are those of tuples 423 + 8 l to 423 + 8 l + 7.
use Rattle.keccak_rnd_operands.proofs.Groups.{rot-is}
use Rattle.keccak_rnd_operands.proofs.rot_lane.Goals as goal

pub returns : goal.returns
returns c = rot-is _ c.requires
