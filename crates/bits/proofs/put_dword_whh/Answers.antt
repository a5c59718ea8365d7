-- `bits::put_dword_whh` meets its contract: three stores.
use native.Mathlib.Omega.{arith}
use lib.ListN.{length-set}
use Rattle.bits.specs.Bits.{limb_at}
use Rattle.lists.proofs.Laws.{sets-three}
use Rattle.bits.proofs.put_dword_whh.Goals as goal

pub bounds-row-at-2 : goal.bounds-row-at-2
bounds-row-at-2 c = simp length-set (omega arith)

pub bounds-row-at-3 : goal.bounds-row-at-3
bounds-row-at-3 c = simp length-set (omega arith)

pub shape_of-row : goal.shape_of-row
shape_of-row c = simp length-set

pub returns : goal.returns
unfolding limb_at
returns c = sets-three _ _ (limb_at c.args.x)
