-- `from_planes` meets its contract: it is `joined` of the planes.
use Rattle.permutation.proofs.from_planes.Goals as goal

pub returns : goal.returns
returns c = c.joined-lanes.ensures
