-- `bits::put_dword_bl` meets its contract: after b turns the first b bytes are stored.
use Prim.Native.Nat.{◌-◌}
use Rattle.bits.specs.Bits.{byte_at}
use Rattle.lists.proofs.Laws.{Filled}
use Rattle.bits.proofs.put_dword_bl.Given as goal

abbrev pub invariant-loop-b : goal.invariant-loop-b
invariant-loop-b l = Filled l.initial.row l.at 8 (byte_at l.x) l.row l.b
