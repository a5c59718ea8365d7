-- `keccak_rnd_trace::keccak_rnd_rows` meets its contract: one check after the other, then the rows.
use mathlib.Core.Path.{refl, ◌∙◌}
use native.Mathlib.Omega.{arith}
use Rattle.answer.proofs.Laws.{answers, kept, accepts, written, handed-on, sets-overwrite}
use Rattle.answer.proofs.Refusals.{rounds-later}
use Rattle.keccak.specs.Refusals.{op_count}
use Rattle.keccak.proofs.Checks.{too_many_lem, told-refused, told-done}
use Rattle.keccak.specs.Row.{op_at}
use Rattle.keccak_rnd.specs.Row.{round_rows}
use Rattle.keccak_rnd.specs.Refusals.{round_rows_refusal}
use Rattle.keccak_rnd.proofs.Rows.{few-rows}
use Rattle.keccak_rnd.proofs.Table.{length-round-rows}
use Rattle.keccak_rnd_trace.proofs.Rounds.{rounds-refused, rounds-done}
use Rattle.keccak_rnd_trace.proofs.keccak_rnd_rows.Goals as goal

pub returns-in_err-check_rounds : goal.returns-in_err-check_rounds
unfolding round_rows_refusal
returns-in_err-check_rounds c =
    let e = rounds-refused c.args.nr c.check_rounds.ensures _ c.in_err-check_rounds.was in
    record { answer = handed-on _ c.from_residual.ensures.1 ∙ answers e; words = kept _ _ e }

pub returns-then-n-gt-MAX_OPS : goal.returns-then-n-gt-MAX_OPS
unfolding round_rows_refusal
returns-then-n-gt-MAX_OPS c =
    let h = rounds-done c.args.nr c.check_rounds.ensures c.in_ok-check_rounds.was in
    let e = rounds-later _ _ h.0 h.1 ∙ too_many_lem _ _ _ c.if-n-gt-MAX_OPS.true in
    record { answer = answers e; words = kept _ _ e }

pub overflow_mul-n : goal.overflow_mul-n
overflow_mul-n c =
    let h = rounds-done c.args.nr c.check_rounds.ensures c.in_ok-check_rounds.was in
    omega (arith, few-rows c.args.nr (op_count c.args.ops.now) h.1 c.if-n-gt-MAX_OPS.false)

pub overflow_mul-n-2 : goal.overflow_mul-n-2
overflow_mul-n-2 c =
    let h = rounds-done c.args.nr c.check_rounds.ensures c.in_ok-check_rounds.was in
    omega (arith, few-rows c.args.nr (op_count c.args.ops.now) h.1 c.if-n-gt-MAX_OPS.false)

pub returns-in_err-check_operations : goal.returns-in_err-check_operations
unfolding round_rows_refusal
returns-in_err-check_operations c =
    let h = rounds-done c.args.nr c.check_rounds.ensures c.in_ok-check_rounds.was in
    let e = rounds-later _ _ h.0 h.1 ∙ told-refused _ _ _ c.if-n-gt-MAX_OPS.false refl c.check_operations.ensures c.in_err-check_operations.was in
    record { answer = handed-on _ c.from_residual-in_err-check_operations.ensures.1 ∙ answers e; words = kept _ _ e }

pub put_op_rounds-requires : goal.put_op_rounds-requires
put_op_rounds-requires c =
    let h = rounds-done c.args.nr c.check_rounds.ensures c.in_ok-check_rounds.was in
    let known = told-done _ _ _ c.if-n-gt-MAX_OPS.false refl c.check_operations.ensures c.in_ok-check_operations.was in
    (h.0, h.1, omega arith, known.1.fits)

pub returns : goal.returns
unfolding round_rows_refusal round_rows
returns c =
    let nr = c.args.nr in
    let ops = c.args.ops.now in
    let n = op_count ops in
    let h = rounds-done nr c.check_rounds.ensures c.in_ok-check_rounds.was in
    let known = told-done _ _ _ c.if-n-gt-MAX_OPS.false refl c.check_operations.ensures c.in_ok-check_operations.was in
    let e = rounds-later _ _ h.0 h.1 ∙ known.0 in
    record {
      answer = accepts e;
      words = written _ e (c.put_op_rounds.ensures ∙ sets-overwrite c.args.table.now (round_rows nr n (op_at ops)) (omega (arith, known.1.fits, length-round-rows nr n (op_at ops))));
    }
