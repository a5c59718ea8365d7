-- `bits::put_lanes` meets its contract: after i turns the first 8 i bytes are stored.
use Prim.Native.Nat.{◌-◌, ◌*◌}
use Rattle.bits.specs.Bits.{lane_byte}
use Rattle.lists.proofs.Laws.{Filled}
use Rattle.bits.proofs.put_lanes.Given as goal

abbrev pub invariant-loop-i : goal.invariant-loop-i
invariant-loop-i l = Filled l.initial.row l.at 200 (lane_byte l.lanes) l.row (8 * l.i)
