-- `keccak_lookups::put_align` meets its contract: one word.
use Rattle.keccak_lookups.proofs.Stored.{align-stored}
use Rattle.keccak_lookups.proofs.put_align.Goals as goal

pub returns : goal.returns
returns c = align-stored _ _ c.and_residue.ensures
