-- `byte_tuples::send::send_alu` meets its contract: four words are stored.
use mathlib.Core.Path.{refl}
use mathlib.Core.List.{[], ◌∷◌}
use native.Mathlib.Omega.{arith}
use lib.ListN.{length-set}
use Rattle.answer.proofs.Laws.{sets-overwrite}
use Rattle.byte_tuples.proofs.send.send_alu.Goals as goal

pub bounds-out-1 : goal.bounds-out-1
bounds-out-1 c = simp length-set (omega arith)

pub bounds-out-2 : goal.bounds-out-2
bounds-out-2 c = simp length-set (omega arith)

pub returns : goal.returns
returns c = record { answer = refl; words = sets-overwrite _ (_ ∷ _ ∷ _ ∷ _ ∷ []) c.requires }
