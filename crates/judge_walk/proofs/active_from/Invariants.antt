-- `judge_walk::active_from` meets its contract: no row from b on and before q is active.
use mathlib.Core.Path.{◌≡◌}
use Prim.Native.Nat.{◌-◌}
use Rattle.judge_walk.specs.Walk.{active_to, active_from}
use Rattle.judge_walk.proofs.active_from.Given as goal

abbrev pub invariant-loop-q : goal.invariant-loop-q
invariant-loop-q l = active_to l.round l.q (l.rows - l.q) ≡ active_from l.round l.b
