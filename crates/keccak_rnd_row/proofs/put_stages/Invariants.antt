-- `put_stages` meets its contract: one cell after the other.
use Rattle.keccak_rnd.specs.Parts.{stage_cell}
use Rattle.lists.proofs.Laws.{Filled}
use Rattle.keccak_rnd_row.proofs.put_stages.Given as goal

abbrev pub invariant-loop-k : goal.invariant-loop-k
invariant-loop-k l = Filled l.initial.row l.at 160 (stage_cell l.t) l.row l.k
