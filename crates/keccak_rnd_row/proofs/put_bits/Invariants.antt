-- `put_bits` meets its contract: one cell after the other.
use Rattle.keccak_rnd.specs.Parts.{bit_cell}
use Rattle.lists.proofs.Laws.{Filled}
use Rattle.keccak_rnd_row.proofs.put_bits.Given as goal

abbrev pub invariant-loop-k : goal.invariant-loop-k
invariant-loop-k l = Filled l.initial.row l.at 20 (bit_cell l.t) l.row l.k
