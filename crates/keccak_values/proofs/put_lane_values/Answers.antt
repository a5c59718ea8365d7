use mathlib.Core.Path.{◌≡◌, subst}
use Prim.Native.Nat.{ℕ, ◌+◌, ◌*◌}
use native.Mathlib.Omega.{arith}
use Rattle.lists.proofs.Laws.{Filled, filled_none, filled_next, filled-all}
use lib.ListN.{length-set}
use Rattle.keccak_values.proofs.put_lane_values.Goals as goal

pub loop-i-init : goal.loop-i-init
loop-i-init c = filled_none _ _ _ _

pub lane_values-v-requires : goal.lane_values-v-requires
lane_values-v-requires c = (c.requires.0, c.loop-i-test.true, c.requires.2, c.requires.3)

pub bounds-out-i-in-loop-i : goal.bounds-out-i-in-loop-i
bounds-out-i-in-loop-i c = simp length-set (omega arith)

pub loop-i-preserved : goal.loop-i-preserved
loop-i-preserved c =
    let low = filled_next _ c.loop-i.invariant (omega arith) c.lane_values-v.ensures.0 in
    subst (Filled _ 0 50 _ _) (turn c.loop-i.i) (filled_next _ low (omega arith) c.lane_values-v.ensures.1)
  where
    turn : (i : ℕ) → 2 * i + 1 + 1 ≡ 2 * (i + 1)
    turn i = omega arith

pub returns : goal.returns
returns c = filled-all c.loop-i.invariant (omega arith)
