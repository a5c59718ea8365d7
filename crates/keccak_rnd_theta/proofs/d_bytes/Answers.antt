-- `d_bytes` meets its contract, byte by byte.
use Rattle.keccak_rnd.proofs.Tables.{d-eight}
use Rattle.keccak_rnd_theta.proofs.d_bytes.Goals as goal

pub returns : goal.returns
returns c = d-eight c.args.before _ _ c.rotated-r.ensures
