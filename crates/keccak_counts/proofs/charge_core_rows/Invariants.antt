-- `keccak_counts::charge_core_rows` meets its contract: after i turns the first i rows are charged (Rows.antt).
use Rattle.keccak_counts.proofs.Rows.{RowsAdded}
use Rattle.keccak_counts.proofs.charge_core_rows.Given as goal

abbrev pub invariant-loop-i : goal.invariant-loop-i
invariant-loop-i l = RowsAdded l.ops l.initial.counters l.counters l.n l.i
