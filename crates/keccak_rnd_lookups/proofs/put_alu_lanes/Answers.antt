use native.Mathlib.Omega.{arith}
use Rattle.keccak_rnd_operands.proofs.Groups.{eight, run_lane}
use Rattle.lists.proofs.Laws.{filled_none}
use Rattle.residue.proofs.Stored.{filled-lane}
use Rattle.keccak_rnd_lookups.proofs.put_alu_lanes.Goals as goal

pub loop-l-init : goal.loop-l-init
loop-l-init c = filled_none _ _ _ _

pub put_alu_lane-requires : goal.put_alu_lane-requires
put_alu_lane-requires c = (eight _ c.operand_lane-first.ensures, eight _ c.operand_lane-second.ensures, omega (arith, c.lane_operands-op.ensures.c-within), omega arith)

pub loop-l-preserved : goal.loop-l-preserved
loop-l-preserved c = filled-lane _ _ c.loop-l.l c.loop-l.invariant (omega arith) c.put_alu_lane.ensures (run_lane _ _ c.loop-l.l c.lane_operands-op.ensures c.operand_lane-first.ensures c.operand_lane-second.ensures)
