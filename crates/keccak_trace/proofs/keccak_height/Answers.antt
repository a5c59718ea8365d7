-- `keccak_trace::keccak_height` meets its contract: one check after the other, then the height.
use mathlib.Core.Path.{◌∙◌}
use Rattle.answer.proofs.Laws.{handed-on, number-refused, number_is}
use Rattle.answer.proofs.Refusals.{floor-stops, floor-goes-on}
use Rattle.keccak.specs.Refusals.{core_count_refusal}
use Rattle.keccak.proofs.Room.{count_past, core-count-accepted}
use Rattle.keccak_trace.proofs.keccak_height.Goals as goal

pub returns-in_err-check_floor : goal.returns-in_err-check_floor
unfolding core_count_refusal
returns-in_err-check_floor c =
    handed-on _ c.from_residual.ensures.1 ∙ number-refused _ (floor-stops c.args.floor c.check_floor.ensures _ c.in_err-check_floor.was)

pub returns-then-n-gt-MAX_OPS : goal.returns-then-n-gt-MAX_OPS
returns-then-n-gt-MAX_OPS c = number-refused _ (count_past _ _ (floor-goes-on _ c.check_floor.ensures c.in_ok-check_floor.was) c.if-n-gt-MAX_OPS.true)

pub returns-else-n-gt-MAX_OPS : goal.returns-else-n-gt-MAX_OPS
returns-else-n-gt-MAX_OPS c =
    number_is ((core-count-accepted _ _).1 (floor-goes-on _ c.check_floor.ensures c.in_ok-check_floor.was, c.if-n-gt-MAX_OPS.false)) c.table_height.ensures
