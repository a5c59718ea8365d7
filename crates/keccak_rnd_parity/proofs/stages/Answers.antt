-- `stages` meets its contract: the bytes of a xor are the xors of the bytes.
use mathlib.Core.Path.{refl}
use Rattle.keccak_rnd.proofs.Tables.{stage-tables}
use Rattle.keccak_rnd_parity.proofs.stages.Goals as goal

pub returns : goal.returns
returns c =
    stage-tables _ _ refl refl refl refl c.bytes_of.ensures c.bytes_of-2.ensures c.bytes_of-3.ensures c.bytes_of-4.ensures
