-- `theta_planes` meets its contract: it is made of its planes.
use mathlib.Core.Path.{◌∙◌}
use Rattle.fips202.specs.Lanes.{theta_at}
use Rattle.fips202.proofs.Steps.{planes-grid}
use Rattle.permutation.proofs.theta.theta_planes.Goals as goal

pub returns : goal.returns
returns c =
    c.joined.ensures
    ∙ planes-grid (theta_at c.args.a c.args.d) c.theta_plane.ensures c.theta_plane-2.ensures c.theta_plane-3.ensures c.theta_plane-4.ensures c.theta_plane-5.ensures
