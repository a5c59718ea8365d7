-- `is_wh_rows::run_from` meets its contract: all loads from `from` to k have one code, and count is how many keys they hold (Scan.antt).
use Rattle.is_wh_rows.proofs.Scan.{Run}
use Rattle.is_wh_rows.proofs.run_from.Given as goal

abbrev pub invariant-loop-k : goal.invariant-loop-k
invariant-loop-k l = Run l.words l.from l.x l.k l.count
