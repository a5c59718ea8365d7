-- `is_wh_rows::put_loads` meets its contract: after i turns the loads of the first i keys stand in front (Filling.antt).
use Rattle.is_wh_rows.proofs.Filling.{Loaded}
use Rattle.is_wh_rows.proofs.put_loads.Given as goal

abbrev pub invariant-loop-i : goal.invariant-loop-i
invariant-loop-i l = Loaded l.keys l.initial.out l.out l.n l.i l.m
