-- `keccak_tuples::ecall_tuple` meets its contract: four words are stored.
use mathlib.Core.Path.{refl}
use native.Mathlib.Omega.{arith}
use lib.ListN.{length-set}
use mathlib.Core.List.{[], ◌∷◌}
use Rattle.answer.proofs.Laws.{sets-overwrite}
use Rattle.keccak.specs.Tuples.{ecall_tuple}
use Rattle.keccak_tuples.proofs.ecall_tuple.Goals as goal

pub bounds-out-1 : goal.bounds-out-1
bounds-out-1 c = simp length-set (omega arith)

pub bounds-out-2 : goal.bounds-out-2
bounds-out-2 c = simp length-set (omega arith)

pub returns : goal.returns
unfolding ecall_tuple
returns c = record { answer = refl; words = sets-overwrite _ (_ ∷ _ ∷ _ ∷ _ ∷ []) c.requires.1 }
