-- `is_wh_rows::put_rows` meets its contract: a run a turn (Scan.antt).
use Prim.Native.Nat.{◌-◌}
use lib.ListN.{length}
use Rattle.is_wh_rows.proofs.Scan.{Stored}
use Rattle.is_wh_rows.proofs.put_rows.Given as goal

abbrev pub invariant-loop-i : goal.invariant-loop-i
invariant-loop-i l = Stored l.words l.initial.rows l.rows l.i l.count

abbrev pub decreases-loop-i : goal.decreases-loop-i
decreases-loop-i l = length l.words - l.i
