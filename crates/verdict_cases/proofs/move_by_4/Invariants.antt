-- `move_by_4`: every place is in the second row.
use Rattle.std.proofs.Common.{◌≡◌, ◌-◌, length}
use Rattle.verdict_cases.proofs.move_by_4.Given as goal

abbrev pub invariant-loop-i : goal.invariant-loop-i
invariant-loop-i l = length l.core ≡ length l.initial.core
