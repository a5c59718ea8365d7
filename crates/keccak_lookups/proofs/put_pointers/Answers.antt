use mathlib.Core.Path.{◌≡◌, subst}
use Prim.Native.Nat.{ℕ, ◌+◌, ◌*◌}
use lib.ListN.{length-set}
use native.Mathlib.Omega.{arith}
use Rattle.lists.proofs.Laws.{Filled, filled_none, filled_more, filled-all}
use Rattle.keccak_lookups.proofs.Stored.{pair_is, low-is}
use Rattle.keccak_lookups.proofs.put_pointers.Goals as goal

pub loop-i-init : goal.loop-i-init
loop-i-init c = filled_none _ _ _ _

pub bounds-out-i-in-loop-i : goal.bounds-out-i-in-loop-i
bounds-out-i-in-loop-i c = simp length-set (omega arith)

pub loop-i-preserved : goal.loop-i-preserved
loop-i-preserved c =
    let pair = filled_more _ c.loop-i.invariant (omega arith) (pair_is _ _ c.is_wh_residue-pair.ensures) in
    subst (Filled _ 4 50 _ _) (turn c.loop-i.i) (filled_more _ pair (omega arith) (low-is _ _ c.half_residue-low.ensures))
  where
    turn : (i : ℕ) → 2 * i + 1 + 1 ≡ 2 * (i + 1)
    turn i = omega arith

pub returns : goal.returns
returns c = filled-all c.loop-i.invariant (omega arith)
