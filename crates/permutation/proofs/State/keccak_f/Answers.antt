-- `keccak_f` meets its contract: it is `keccak_p` of 24 rounds.
use Rattle.permutation.proofs.State.keccak_f.Goals as goal

pub returns : goal.returns
returns c = c.keccak_p.ensures
