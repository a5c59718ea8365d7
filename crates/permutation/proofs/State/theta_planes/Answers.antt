-- `State::theta_planes` meets its contract: it is `theta::theta_planes` of the lanes.
use Rattle.permutation.proofs.State.theta_planes.Goals as goal

pub returns : goal.returns
returns c = c.theta_planes-lanes.ensures
