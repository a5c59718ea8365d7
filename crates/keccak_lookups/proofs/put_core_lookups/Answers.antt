-- `keccak_lookups::put_core_lookups` meets its contract: one group behind the other.
use native.Mathlib.Omega.{arith}
use Rattle.keccak_lookups.proofs.Stored.{all-stored}
use Rattle.keccak_lookups.proofs.put_core_lookups.Goals as goal

pub returns : goal.returns
returns c = all-stored _ _ (omega arith) c.put_zeros.ensures c.put_pointers.ensures c.put_align.ensures c.put_address.ensures c.put_zeros-2.ensures
