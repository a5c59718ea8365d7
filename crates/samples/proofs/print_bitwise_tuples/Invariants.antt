use Rattle.std.proofs.Common.{◌-◌, ◌≤◌}
use Rattle.samples.proofs.print_bitwise_tuples.Given as goal

abbrev pub invariant-loop-i : goal.invariant-loop-i
invariant-loop-i g l = l.i ≤ 10
