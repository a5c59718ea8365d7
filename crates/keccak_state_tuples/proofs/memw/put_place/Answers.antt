-- `keccak_state_tuples::memw::put_place` meets its contract: three words are stored.
use native.Mathlib.Omega.{arith}
use lib.ListN.{length-set}
use Rattle.keccak_state_tuples.proofs.memw.put_place.Goals as goal

pub bounds-out-9 : goal.bounds-out-9
bounds-out-9 c = simp length-set (omega arith)
