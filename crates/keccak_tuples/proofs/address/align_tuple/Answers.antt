-- `keccak_tuples::address::align_tuple` meets its contract: four words are stored.
use native.Mathlib.Omega.{arith}
use lib.ListN.{length-set}
use mathlib.Core.List.{[], ◌∷◌}
use Rattle.answer.proofs.Laws.{sets-overwrite}
use Rattle.keccak.specs.Tuples.{align_tuple}
use Rattle.keccak_tuples.proofs.address.align_tuple.Goals as goal

pub bounds-out-1 : goal.bounds-out-1
bounds-out-1 c = simp length-set (omega arith)

pub bounds-out-2 : goal.bounds-out-2
bounds-out-2 c = simp length-set (omega arith)

pub returns : goal.returns
unfolding align_tuple
returns c = record { answer = c.sent.ensures; words = sets-overwrite _ (_ ∷ _ ∷ _ ∷ _ ∷ []) c.requires.1 }
