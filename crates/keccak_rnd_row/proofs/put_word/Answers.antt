-- `put_word` meets its contract: one store.
use Rattle.lists.proofs.Laws.{sets-cell}
use Rattle.keccak_rnd_row.proofs.put_word.Goals as goal

pub returns : goal.returns
returns c = sets-cell _ _ _
