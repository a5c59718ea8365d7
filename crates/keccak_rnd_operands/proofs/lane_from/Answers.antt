-- `keccak_rnd_operands::lane_from` meets its contract: the part has eight words.
use Rattle.lists.proofs.Kept.{part-tab}
use Rattle.keccak_rnd_operands.proofs.lane_from.Goals as goal

pub returns : goal.returns
returns c = part-tab _ _ 8 c.requires
