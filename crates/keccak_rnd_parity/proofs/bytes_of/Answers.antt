-- `bytes_of` meets its contract, byte by byte.
use mathlib.Core.Path.{refl}
use Rattle.bits.specs.Bits.{byte_at}
use Rattle.keccak_rnd.proofs.Tables.{eight, byte-0}
use Rattle.keccak_rnd_parity.proofs.bytes_of.Goals as goal

pub returns : goal.returns
returns c = eight (byte_at c.args.lane) (byte-0 _) refl refl refl refl refl refl refl
