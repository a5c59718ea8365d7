-- `is_wh_trace::generate_is_wh_trace` meets its contract: one check after the other, then the table.
use Rattle.answer.proofs.Laws.{handed-on, is-refused, is-done}
use Rattle.keccak.proofs.Height.{height-le, height-ge}
use Rattle.is_wh_rows.proofs.Lists.{rows-passed}
use Rattle.is_wh_trace.proofs.Answers.{trace-refused, trace-done}
use mathlib.Core.Path.{sym, ◌∙◌}
use Prim.Native.Nat.{◌/◌}
use native.Mathlib.Omega.{arith}
use lib.ListN.{length}
use Rattle.is_wh_trace.proofs.generate_is_wh_trace.Goals as goal

pub overflow_mul-h : goal.overflow_mul-h
overflow_mul-h c = omega (arith, c.table_height-h.ensures, height-le 4 (length c.args.rows.now / 3))

pub returns-in_err-check_rows : goal.returns-in_err-check_rows
returns-in_err-check_rows c =
    let a = trace-refused c.args.rows.now c.args.table.now _ c.table_height-h.ensures (is-refused _ (sym c.in_err-check_rows.was ∙ c.check_rows.ensures)) in
    record { answer = handed-on _ c.from_residual.ensures.1 ∙ a.0; words = a.1 }

pub put_table-requires : goal.put_table-requires
put_table-requires c =
    let h = c.table_height-h.ensures in (
      omega arith,
      omega (arith, h, height-ge 4 (length c.args.rows.now / 3)),
      (rows-passed _ _ _ _ (is-done _ (sym c.in_ok-check_rows.was ∙ c.check_rows.ensures))).1,
    )

pub returns : goal.returns
returns c =
    let a = trace-done c.args.rows.now c.args.table.now _ c.table_height-h.ensures (is-done _ (sym c.in_ok-check_rows.was ∙ c.check_rows.ensures)) c.put_table.ensures in
    record { answer = a.0; words = a.1 }
