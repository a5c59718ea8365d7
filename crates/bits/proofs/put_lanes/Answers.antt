use Prim.Native.Nat.{◌-◌}
use native.Mathlib.Omega.{arith}
use lib.ListN.{get_or}
use Rattle.bits.specs.Bits.{byte_at}
use Rattle.lists.proofs.Laws.{filled_none, filled-add, filled-all}
use Rattle.bits.proofs.Bytes.{lane_byte_lem}
use Rattle.bits.proofs.put_lanes.Goals as goal

pub loop-i-init : goal.loop-i-init
loop-i-init c = filled_none _ _ _ _

pub loop-i-preserved : goal.loop-i-preserved
loop-i-preserved c =
    let lanes = c.args.lanes in
    let i = c.loop-i.i in
    filled-add 8 (byte_at (get_or lanes i 0)) c.loop-i.invariant (omega arith) (omega arith) c.put_dword_bl.ensures (λ j b. lane_byte_lem lanes i j b)

pub returns : goal.returns
returns c = filled-all c.loop-i.invariant (omega arith)
