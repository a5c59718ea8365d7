-- `State::chi` meets its contract: it is `chi::chi` of the lanes.
use Rattle.permutation.proofs.State.chi.Goals as goal

pub returns : goal.returns
returns c = c.chi-lanes.ensures
