-- `state_bytes` meets its contract: the bytes are stored one after the other.
use Rattle.lists.proofs.Laws.{Filled}
use Rattle.bits.specs.Bits.{lane_byte}
use Rattle.vectors.proofs.state_bytes.Given as goal

abbrev pub invariant-loop-k : goal.invariant-loop-k
invariant-loop-k l = Filled l.initial.bytes 0 200 (lane_byte l.lanes) l.bytes l.k
