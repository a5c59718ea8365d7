-- `digest` meets its contract: the bytes are stored one after the other.
use Prim.Native.Nat.{◌-◌}
use Rattle.lists.proofs.Laws.{Filled}
use Rattle.bits.specs.Bits.{lane_byte}
use Rattle.sha3.proofs.digest.Given as goal

abbrev pub invariant-loop-k : goal.invariant-loop-k
invariant-loop-k l = Filled l.initial.d 0 32 (lane_byte l.lanes) l.d l.k

abbrev pub decreases-loop-k : goal.decreases-loop-k
decreases-loop-k l = 32 - l.k
