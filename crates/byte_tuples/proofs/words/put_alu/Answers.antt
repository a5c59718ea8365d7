-- `byte_tuples::words::put_alu` meets its contract: the four words before the values, then these.
use native.Mathlib.Omega.{arith}
use lib.ListN.{length-set}
use Rattle.byte_tuples.proofs.Stored.{alu-stored}
use Rattle.byte_tuples.proofs.words.put_alu.Goals as goal

pub bounds-out-from-2 : goal.bounds-out-from-2
bounds-out-from-2 c = simp length-set (omega arith)

pub bounds-out-from-3 : goal.bounds-out-from-3
bounds-out-from-3 c = simp length-set (omega arith)

pub bounds-out-from-4 : goal.bounds-out-from-4
bounds-out-from-4 c = simp length-set (omega arith)

pub shape_of-out : goal.shape_of-out
shape_of-out c = simp length-set (omega arith)

pub returns : goal.returns
returns c = alu-stored _ _ _ _ _ _ _ _ c.put_header.ensures
