-- `keccak_rnd_operands::left_pair` meets its contract: the two columns are those of tuple 163 + i.
use Rattle.keccak_rnd_operands.proofs.Groups.{left_is}
use Rattle.keccak_rnd_operands.proofs.left_pair.Goals as goal

pub returns : goal.returns
returns c = left_is _ c.requires
