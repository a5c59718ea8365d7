-- `keccak_rnd_trace::padding_are_bytes` meets its contract: one check after the other, then the rows past the operations'.
use mathlib.Core.Path.{◌∙◌}
use Prim.Native.Nat.{◌*◌}
use native.Mathlib.Omega.{arith}
use Rattle.answer.proofs.Laws.{handed-on, number-refused, number_is}
use Rattle.answer.proofs.Refusals.{both-stop, both-go-on, floor-most}
use Rattle.keccak.proofs.Height.{height-ge, height-le}
use Rattle.keccak_rnd.specs.Refusals.{round_count_refusal}
use Rattle.keccak_rnd.proofs.Refusals.{count_past, round-count-accepted}
use Rattle.keccak_rnd.proofs.Rows.{few-rows, padding-none, padding-some}
use Rattle.keccak_rnd_trace.proofs.padding_are_bytes.Goals as goal

pub returns-in_err-check_rounds_and_floor : goal.returns-in_err-check_rounds_and_floor
unfolding round_count_refusal
returns-in_err-check_rounds_and_floor c =
    handed-on _ c.from_residual.ensures.1
    ∙ number-refused _ (both-stop c.args.nr c.args.floor c.check_rounds_and_floor.ensures _ c.in_err-check_rounds_and_floor.was)

pub returns-then-n-gt-MAX_OPS : goal.returns-then-n-gt-MAX_OPS
returns-then-n-gt-MAX_OPS c =
    let h = both-go-on c.args.nr c.args.floor c.check_rounds_and_floor.ensures c.in_ok-check_rounds_and_floor.was in
    number-refused _ (count_past _ _ _ h.0 h.1 h.2 c.if-n-gt-MAX_OPS.true)

pub returns-then-n-eq0 : goal.returns-then-n-eq0
returns-then-n-eq0 c =
    let h = both-go-on c.args.nr c.args.floor c.check_rounds_and_floor.ensures c.in_ok-check_rounds_and_floor.was in
    number_is ((round-count-accepted _ _ _).1 (h.0, h.1, h.2, c.if-n-gt-MAX_OPS.false)) (padding-none _ _ _ c.if-n-eq0.true)

pub overflow_mul-used : goal.overflow_mul-used
overflow_mul-used c =
    let h = both-go-on c.args.nr c.args.floor c.check_rounds_and_floor.ensures c.in_ok-check_rounds_and_floor.was in
    omega (arith, few-rows c.args.nr c.args.n h.1 c.if-n-gt-MAX_OPS.false)

pub table_height-requires : goal.table_height-requires
table_height-requires c =
    let h = both-go-on c.args.nr c.args.floor c.check_rounds_and_floor.ensures c.in_ok-check_rounds_and_floor.was in
    omega (arith, few-rows c.args.nr c.args.n h.1 c.if-n-gt-MAX_OPS.false)

pub overflow_sub-rows : goal.overflow_sub-rows
overflow_sub-rows c = omega (arith, c.table_height.ensures, height-ge c.args.floor (c.args.n * c.args.nr))

pub overflow_mul-lookups : goal.overflow_mul-lookups
overflow_mul-lookups c =
    let args = c.args in
    let h = both-go-on args.nr args.floor c.check_rounds_and_floor.ensures c.in_ok-check_rounds_and_floor.was in
    omega (arith, c.table_height.ensures, height-le args.floor (args.n * args.nr), floor-most args.floor h.2, few-rows args.nr args.n h.1 c.if-n-gt-MAX_OPS.false)

pub returns : goal.returns
returns c =
    let h = both-go-on c.args.nr c.args.floor c.check_rounds_and_floor.ensures c.in_ok-check_rounds_and_floor.was in
    number_is ((round-count-accepted _ _ _).1 (h.0, h.1, h.2, c.if-n-gt-MAX_OPS.false)) (padding-some _ _ _ c.if-n-eq0.false c.table_height.ensures)
