-- `keccak_rnd_lookups::put_first` meets its contract: the constant's, behind two zeros.
use Rattle.keccak_rnd_lookups.proofs.Joins.{first-stored}
use Rattle.keccak_rnd_lookups.proofs.put_first.Goals as goal

pub returns : goal.returns
returns c = first-stored _ _ c.rc_residue-constant.ensures
