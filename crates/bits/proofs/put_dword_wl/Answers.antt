-- `bits::put_dword_wl` meets its contract.
use native.Mathlib.Omega.{arith}
use lib.ListN.{length-set}
use Rattle.bits.specs.Bits.{word_at}
use Rattle.lists.proofs.Laws.{sets-two}
use Rattle.bits.proofs.put_dword_wl.Goals as goal

pub bounds-row-at-2 : goal.bounds-row-at-2
bounds-row-at-2 c = simp length-set (omega arith)

pub shape_of-row : goal.shape_of-row
shape_of-row c = simp length-set

pub returns : goal.returns
unfolding word_at
returns c = sets-two _ _ (word_at c.args.x)
