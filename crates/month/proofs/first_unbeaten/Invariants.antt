use Prim.Native.Nat.{◌≤◌}
use lib.ListN.{length}
use Rattle.month.specs.Month.{Best}
use Rattle.month.proofs.Fullness.{beaten}
use Rattle.month.proofs.first_unbeaten.Given as goal

abbrev pub invariant-loop-i : goal.invariant-loop-i
invariant-loop-i l = (l.i ≤ length l.counts) × Best (beaten l.full l.nr l.floor l.counts) l.i l.best
