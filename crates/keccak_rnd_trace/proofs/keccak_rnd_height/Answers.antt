-- `keccak_rnd_trace::keccak_rnd_height` meets its contract: one check after the other, then the height.
use mathlib.Core.Path.{◌∙◌}
use native.Mathlib.Omega.{arith}
use Rattle.answer.proofs.Laws.{handed-on, number-refused, number_is}
use Rattle.answer.proofs.Refusals.{both-stop, both-go-on}
use Rattle.keccak_rnd.specs.Refusals.{round_count_refusal}
use Rattle.keccak_rnd.proofs.Refusals.{count_past, round-count-accepted}
use Rattle.keccak_rnd.proofs.Rows.{few-rows}
use Rattle.keccak_rnd_trace.proofs.keccak_rnd_height.Goals as goal

pub returns-in_err-check_rounds_and_floor : goal.returns-in_err-check_rounds_and_floor
unfolding round_count_refusal
returns-in_err-check_rounds_and_floor c =
    handed-on _ c.from_residual.ensures.1
    ∙ number-refused _ (both-stop c.args.nr c.args.floor c.check_rounds_and_floor.ensures _ c.in_err-check_rounds_and_floor.was)

pub returns-then-n-gt-MAX_OPS : goal.returns-then-n-gt-MAX_OPS
returns-then-n-gt-MAX_OPS c =
    let h = both-go-on c.args.nr c.args.floor c.check_rounds_and_floor.ensures c.in_ok-check_rounds_and_floor.was in
    number-refused _ (count_past _ _ _ h.0 h.1 h.2 c.if-n-gt-MAX_OPS.true)

pub overflow_mul-n : goal.overflow_mul-n
overflow_mul-n c =
    let h = both-go-on c.args.nr c.args.floor c.check_rounds_and_floor.ensures c.in_ok-check_rounds_and_floor.was in
    omega (arith, few-rows c.args.nr c.args.n h.1 c.if-n-gt-MAX_OPS.false)

pub table_height-h-requires : goal.table_height-h-requires
table_height-h-requires c =
    let h = both-go-on c.args.nr c.args.floor c.check_rounds_and_floor.ensures c.in_ok-check_rounds_and_floor.was in
    omega (arith, few-rows c.args.nr c.args.n h.1 c.if-n-gt-MAX_OPS.false)

pub returns : goal.returns
returns c =
    let h = both-go-on c.args.nr c.args.floor c.check_rounds_and_floor.ensures c.in_ok-check_rounds_and_floor.was in
    number_is ((round-count-accepted _ _ _).1 (h.0, h.1, h.2, c.if-n-gt-MAX_OPS.false)) c.table_height-h.ensures
