-- `judge_within::walks::first_unbalanced` meets its contract: the least place so far, group by group (Unbalanced.antt).
use Prim.Native.Nat.{◌-◌, ◌≤◌, ◌<◌}
use lib.ListN.{length}
use Rattle.sort_places.specs.Places.{place_tuple}
use Rattle.judge_within.specs.Groups.{Apart}
use Rattle.judge_within.proofs.Unbalanced.{LowestTo}
use Rattle.judge_within.proofs.walks.first_unbalanced.Given as goal

abbrev pub invariant-loop-start : goal.invariant-loop-start
invariant-loop-start l = (l.start ≤ length l.places) × (l.start < length l.places → Apart (place_tuple l.nr l.core l.round) l.places l.start) × LowestTo l.nr l.core l.round l.places l.start l.least

abbrev pub decreases-loop-start : goal.decreases-loop-start
decreases-loop-start l = length l.places - l.start
