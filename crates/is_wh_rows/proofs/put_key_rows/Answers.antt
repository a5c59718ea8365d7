use Rattle.is_wh_rows.proofs.Flat.{key-none, key_more, key-all}
use native.Mathlib.Omega.{arith}
use Rattle.is_wh_rows.proofs.put_key_rows.Goals as goal

pub loop-j-init : goal.loop-j-init
loop-j-init c = key-none _ _ _ _

pub loop-j-preserved : goal.loop-j-preserved
loop-j-preserved c =
    key_more c.loop-j.invariant (omega arith) c.row_count-count.ensures c.put_row.ensures

pub returns-clause-words : goal.returns-clause-words
returns-clause-words c = key-all c.loop-j.invariant (omega arith)
