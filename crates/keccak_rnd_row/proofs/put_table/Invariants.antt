-- `put_table` meets its contract: one cell after the other.
use Rattle.keccak_rnd.specs.Parts.{byte_cell}
use Rattle.lists.proofs.Laws.{Filled}
use Rattle.keccak_rnd_row.proofs.put_table.Given as goal

abbrev pub invariant-loop-k : goal.invariant-loop-k
invariant-loop-k l = Filled l.initial.row l.at 40 (byte_cell l.t) l.row l.k
