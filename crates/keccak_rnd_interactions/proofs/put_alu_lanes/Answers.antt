use mathlib.Core.Path.{refl}
use native.Mathlib.Omega.{arith}
use Rattle.byte_tuples.proofs.Stored.{listed_start}
use Rattle.keccak_rnd_operands.proofs.Groups.{run_lane, eight}
use Rattle.tuple.proofs.Words.{listed-lane}
use Rattle.keccak_rnd_interactions.proofs.put_alu_lanes.Goals as goal

pub loop-l-init : goal.loop-l-init
loop-l-init c = listed_start _ _ _ _

pub put_alu_lane-requires : goal.put_alu_lane-requires
put_alu_lane-requires c = (eight _ c.operand_lane-first.ensures, eight _ c.operand_lane-second.ensures, omega (arith, c.lane_operands-op.ensures.c-within), omega arith)

pub loop-l-preserved : goal.loop-l-preserved
loop-l-preserved c = listed-lane c.loop-l.invariant 8 4 _ (omega arith) (run_lane _ _ c.loop-l.l c.lane_operands-op.ensures c.operand_lane-first.ensures c.operand_lane-second.ensures) (λ k. refl) (omega arith) (omega arith) c.put_alu_lane.ensures
