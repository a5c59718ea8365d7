-- `is_wh_counts::charge_rows` meets its contract: after i turns the first i rows are charged (Charging.antt).
use Rattle.is_wh_counts.proofs.Charging.{ListGrown}
use Rattle.is_wh_counts.proofs.charge_rows.Given as goal

abbrev pub invariant-loop-i : goal.invariant-loop-i
invariant-loop-i l = ListGrown l.rows l.initial.counters l.counters l.i
