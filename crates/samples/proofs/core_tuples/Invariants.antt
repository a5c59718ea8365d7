-- `core_tuples` is safe and ends.
use Prim.Native.Nat.{◌-◌, ◌≤◌}
use Rattle.samples.proofs.core_tuples.Given as goal

abbrev pub invariant-loop-i : goal.invariant-loop-i
invariant-loop-i l = l.i ≤ 84
