-- `judge_within::places::place_count` meets its contract.
use mathlib.Core.Path.{refl}
use Rattle.sort_places.specs.Places.{place_count}
use Rattle.judge_within.proofs.places.place_count.Goals as goal

pub returns : goal.returns
unfolding place_count
returns c = refl
