-- `byte_tuples::send::send_bytes` meets its contract: two words are stored.
use mathlib.Core.Path.{refl}
use mathlib.Core.List.{[], ◌∷◌}
use Rattle.answer.proofs.Laws.{sets-overwrite}
use Rattle.byte_tuples.proofs.send.send_bytes.Goals as goal

pub returns : goal.returns
returns c = record { answer = refl; words = sets-overwrite _ (_ ∷ _ ∷ []) c.requires }
