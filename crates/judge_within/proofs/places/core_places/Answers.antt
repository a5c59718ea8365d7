-- `judge_within::places::core_places` meets its contract.
use mathlib.Core.Path.{refl}
use Rattle.sort_places.specs.Places.{core_places}
use Rattle.judge_within.proofs.places.core_places.Goals as goal

pub returns : goal.returns
unfolding core_places
returns c = refl
