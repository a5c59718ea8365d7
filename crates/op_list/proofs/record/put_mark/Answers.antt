-- `record::put_mark` meets its contract: two bytes.
use native.Mathlib.Omega.{arith}
use lib.ListN.{length-set}
use Rattle.op_list.proofs.record.put_mark.Goals as goal

pub bounds-bytes-to-2 : goal.bounds-bytes-to-2
bounds-bytes-to-2 c = simp length-set (omega arith)
