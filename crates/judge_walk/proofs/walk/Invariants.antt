-- `judge_walk::walk` meets its contract: what is left of the walk from both rows on is what was at the start.
use mathlib.Core.Path.{◌≡◌}
use Prim.Native.Nat.{◌≤◌, ◌-◌, ◌/◌}
use lib.ListN.{length}
use Rattle.judge_walk.specs.Walk.{walk_to}
use Rattle.judge_walk.proofs.walk.Given as goal

abbrev pub invariant-loop-a : goal.invariant-loop-a
invariant-loop-a l =
    (l.b ≤ length l.round / 1480) × (walk_to l.nr l.core l.round l.a l.b (l.rows - l.a) ≡ walk_to l.nr l.core l.round 0 0 l.rows)
