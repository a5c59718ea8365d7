-- `is_wh_trace::put_table` meets its contract: the rows, then the padding rows.
use Rattle.is_wh_trace.proofs.Rows.{padded}
use native.Mathlib.Omega.{arith}
use Rattle.is_wh_trace.proofs.put_table.Goals as goal

pub returns : goal.returns
returns c =
    padded c.args.table.now _ _ c.args.rows.now c.args.n c.args.h (omega arith) c.put_rows.ensures c.put_zeros.ensures
