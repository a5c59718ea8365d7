-- `keccak_trace::keccak_rows` meets its contract: one check after the other, then the rows.
use mathlib.Core.Path.{refl, ◌∙◌}
use native.Mathlib.Omega.{arith}
use Rattle.answer.proofs.Laws.{answers, kept, accepts, written, handed-on, sets-overwrite}
use Rattle.keccak.specs.Refusals.{op_count, core_rows_refusal}
use Rattle.keccak.proofs.Checks.{too_many_lem, told-refused, told-done}
use Rattle.keccak.specs.Row.{core_rows, op_at}
use Rattle.keccak.proofs.Table.{length-core-rows}
use Rattle.keccak_trace.proofs.keccak_rows.Goals as goal

pub returns-then-n-gt-MAX_OPS : goal.returns-then-n-gt-MAX_OPS
unfolding core_rows_refusal
returns-then-n-gt-MAX_OPS c =
    record { answer = answers (too_many_lem _ _ _ c.if-n-gt-MAX_OPS.true); words = kept _ _ (too_many_lem _ _ _ c.if-n-gt-MAX_OPS.true) }

pub returns-in_err-check_operations : goal.returns-in_err-check_operations
unfolding core_rows_refusal
returns-in_err-check_operations c =
    let refuses = told-refused _ _ _ c.if-n-gt-MAX_OPS.false refl c.check_operations.ensures c.in_err-check_operations.was in
    record { answer = handed-on _ c.from_residual.ensures.1 ∙ answers refuses; words = kept _ _ refuses }

pub put_op_rows-requires : goal.put_op_rows-requires
put_op_rows-requires c =
    let known = (told-done _ _ _ c.if-n-gt-MAX_OPS.false refl c.check_operations.ensures c.in_ok-check_operations.was).1 in
    (omega arith, known.fits, known.low, known.segments)

pub returns : goal.returns
unfolding core_rows_refusal core_rows
returns c =
    let ops = c.args.ops.now in
    let n = op_count ops in
    let known = told-done _ _ _ c.if-n-gt-MAX_OPS.false refl c.check_operations.ensures c.in_ok-check_operations.was in
    record {
      answer = accepts known.0;
      words =
          written _ known.0
          (c.put_op_rows.ensures ∙ sets-overwrite c.args.table.now (core_rows n (op_at ops)) (omega (arith, known.1.fits, length-core-rows n (op_at ops))));
    }
