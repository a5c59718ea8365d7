-- `keccak_rnd_trace::generate_keccak_rnd_trace` meets its contract: one check after the other, then the table.
use mathlib.Core.Path.{ap, ◌∙◌}
use Prim.Native.Nat.{ℕ, ◌*◌}
use native.Mathlib.Omega.{arith}
use lib.Seq.{sets}
use Rattle.answer.proofs.Laws.{answers, kept, accepts, written, handed-on, sets-overwrite}
use Rattle.answer.proofs.Refusals.{both_later, both-stop, both-go-on, floor-most}
use Rattle.keccak.specs.Refusals.{op_count}
use Rattle.keccak.proofs.Checks.{too_many_lem, told-refused, told-done}
use Rattle.lists.specs.Tab.{table_of}
use Rattle.keccak.specs.Row.{op_at}
use Rattle.keccak.proofs.Height.{height-ge, height-le}
use Rattle.keccak_rnd.specs.Row.{round_row_at, round_table}
use Rattle.keccak_rnd.specs.Refusals.{round_trace_refusal}
use Rattle.keccak_rnd.proofs.Rows.{few-rows}
use Rattle.keccak_rnd.proofs.Table.{length-round-table}
use Rattle.keccak_rnd_trace.proofs.generate_keccak_rnd_trace.Goals as goal

pub returns-in_err-check_rounds_and_floor : goal.returns-in_err-check_rounds_and_floor
unfolding round_trace_refusal
returns-in_err-check_rounds_and_floor c =
    let e = both-stop c.args.nr c.args.floor c.check_rounds_and_floor.ensures _ c.in_err-check_rounds_and_floor.was in
    record { answer = handed-on _ c.from_residual.ensures.1 ∙ answers e; words = kept _ _ e }

pub returns-then-n-gt-MAX_OPS : goal.returns-then-n-gt-MAX_OPS
unfolding round_trace_refusal
returns-then-n-gt-MAX_OPS c =
    let both = both-go-on c.args.nr c.args.floor c.check_rounds_and_floor.ensures c.in_ok-check_rounds_and_floor.was in
    let e = both_later _ _ _ both ∙ too_many_lem _ _ _ c.if-n-gt-MAX_OPS.true in
    record { answer = answers e; words = kept _ _ e }

pub overflow_mul-n : goal.overflow_mul-n
overflow_mul-n c =
    let both = both-go-on c.args.nr c.args.floor c.check_rounds_and_floor.ensures c.in_ok-check_rounds_and_floor.was in
    omega (arith, few-rows c.args.nr (op_count c.args.ops.now) both.1 c.if-n-gt-MAX_OPS.false)

pub table_height-h-requires : goal.table_height-h-requires
table_height-h-requires c =
    let both = both-go-on c.args.nr c.args.floor c.check_rounds_and_floor.ensures c.in_ok-check_rounds_and_floor.was in
    omega (arith, few-rows c.args.nr (op_count c.args.ops.now) both.1 c.if-n-gt-MAX_OPS.false)

pub overflow_mul-h : goal.overflow_mul-h
overflow_mul-h c =
    let args = c.args in
    let n = op_count args.ops.now in
    let both = both-go-on args.nr args.floor c.check_rounds_and_floor.ensures c.in_ok-check_rounds_and_floor.was in
    omega (arith, c.table_height-h.ensures, height-le args.floor (n * args.nr), floor-most args.floor both.2, few-rows args.nr n both.1 c.if-n-gt-MAX_OPS.false)

pub returns-in_err-check_operations : goal.returns-in_err-check_operations
unfolding round_trace_refusal
returns-in_err-check_operations c =
    let both = both-go-on c.args.nr c.args.floor c.check_rounds_and_floor.ensures c.in_ok-check_rounds_and_floor.was in
    let asked = ap (λ (h : ℕ). h * 1480) c.table_height-h.ensures in
    let e = both_later _ _ _ both ∙ told-refused _ _ _ c.if-n-gt-MAX_OPS.false asked c.check_operations.ensures c.in_err-check_operations.was in
    record { answer = handed-on _ c.from_residual-in_err-check_operations.ensures.1 ∙ answers e; words = kept _ _ e }

pub put_round_rows-requires : goal.put_round_rows-requires
put_round_rows-requires c =
    let args = c.args in
    let both = both-go-on args.nr args.floor c.check_rounds_and_floor.ensures c.in_ok-check_rounds_and_floor.was in
    let h = c.table_height-h.ensures in
    let asked = ap (λ (h : ℕ). h * 1480) h in
    let known = told-done _ _ _ c.if-n-gt-MAX_OPS.false asked c.check_operations.ensures c.in_ok-check_operations.was in
    (both.0, both.1, omega arith, omega (arith, h, height-ge args.floor (op_count args.ops.now * args.nr)), omega (arith, h, known.1.fits))

pub returns : goal.returns
unfolding round_trace_refusal round_table
returns c =
    let nr = c.args.nr in
    let floor = c.args.floor in
    let ops = c.args.ops.now in
    let table = c.args.table.now in
    let n = op_count ops in
    let both = both-go-on nr floor c.check_rounds_and_floor.ensures c.in_ok-check_rounds_and_floor.was in
    let asked = ap (λ (h : ℕ). h * 1480) c.table_height-h.ensures in
    let known = told-done _ _ _ c.if-n-gt-MAX_OPS.false asked c.check_operations.ensures c.in_ok-check_operations.was in
    let e = both_later _ _ _ both ∙ known.0 in
    record {
      answer = accepts e;
      words = written _ e
          (c.put_round_rows.ensures
          ∙ ap (λ (h : ℕ). sets table 0 (table_of h 1480 (round_row_at nr n (op_at ops)))) c.table_height-h.ensures
          ∙ sets-overwrite table (round_table nr floor n (op_at ops)) (omega (arith, known.1.fits, length-round-table nr n (op_at ops) floor)));
    }
