-- `send_one` meets its contract: one word is stored.
use mathlib.Core.Path.{refl}
use mathlib.Core.List.{[], ◌∷◌}
use Rattle.answer.proofs.Laws.{sets-overwrite}
use Rattle.is_wh.proofs.parts.send_one.Goals as goal

pub returns : goal.returns
returns c = record { answer = refl; words = sets-overwrite _ (_ ∷ []) c.requires }
