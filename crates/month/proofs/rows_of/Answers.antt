-- `month::rows_of` meets its contract.
use native.Mathlib.Omega.{arith}
use Rattle.keccak_rnd.proofs.Rows.{few-rows}
use Rattle.month.proofs.rows_of.Goals as goal

pub overflow_mul-used : goal.overflow_mul-used
overflow_mul-used c = omega (arith, few-rows c.args.nr c.args.n c.requires.0 c.requires.2)

pub table_height-total-requires : goal.table_height-total-requires
table_height-total-requires c = omega (arith, few-rows c.args.nr c.args.n c.requires.0 c.requires.2)
