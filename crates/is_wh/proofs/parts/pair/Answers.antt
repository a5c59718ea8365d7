-- `pair` meets its contract: two words are stored.
use mathlib.Core.Path.{refl}
use mathlib.Core.List.{[], ◌∷◌}
use Rattle.answer.proofs.Laws.{sets-overwrite}
use Rattle.is_wh.proofs.parts.pair.Goals as goal

pub returns : goal.returns
returns c = record { answer = refl; words = sets-overwrite _ (_ ∷ _ ∷ []) c.requires }
