-- `op_list::write_operations` meets its contract: one check after the other, then the records.
use mathlib.Core.Path.{◌∙◌}
use native.Mathlib.Omega.{arith}
use Rattle.answer.proofs.Laws.{answers, kept, accepts, written, handed-on, sets-overwrite}
use Rattle.keccak.proofs.Checks.{too_many_lem, told-refused, told-done}
use Rattle.op_list.specs.Files.{file_bytes, write_refusal}
use Rattle.op_list.proofs.Files.{file-length}
use Rattle.op_list.proofs.write_operations.Goals as goal

pub returns-then-n-gt-MAX_OPS : goal.returns-then-n-gt-MAX_OPS
unfolding write_refusal
returns-then-n-gt-MAX_OPS c =
    let e = too_many_lem _ _ _ c.if-n-gt-MAX_OPS.true in
    record { answer = answers e; words = kept _ _ e }

pub returns-in_err-check_operations : goal.returns-in_err-check_operations
unfolding write_refusal
returns-in_err-check_operations c =
    let e = told-refused _ _ _ c.if-n-gt-MAX_OPS.false c.bytes_for.ensures c.check_operations.ensures c.in_err-check_operations.was in
    record { answer = handed-on _ c.from_residual.ensures.1 ∙ answers e; words = kept _ _ e }

pub put_records-requires : goal.put_records-requires
put_records-requires c =
    let known = told-done _ _ _ c.if-n-gt-MAX_OPS.false c.bytes_for.ensures c.check_operations.ensures c.in_ok-check_operations.was in
    (omega arith, known.1.fits)

pub returns : goal.returns
unfolding write_refusal file_bytes
returns c =
    let ops = c.args.ops.now in
    let known = told-done _ _ _ c.if-n-gt-MAX_OPS.false c.bytes_for.ensures c.check_operations.ensures c.in_ok-check_operations.was in
    record {
      answer = accepts known.0;
      words = written _ known.0 (c.put_records.ensures ∙ sets-overwrite c.args.file.now (file_bytes ops) (omega (arith, known.1.fits, file-length ops)));
    }
