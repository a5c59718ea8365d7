-- `chi_ands` meets its contract: it is made of its planes.
use mathlib.Core.Path.{◌∙◌}
use Rattle.keccak_rnd.specs.Row.{and_lanes}
use Rattle.fips202.proofs.Steps.{planes-grid}
use Rattle.keccak_rnd_rho.proofs.chi_ands.Goals as goal

pub returns : goal.returns
unfolding and_lanes
returns c =
    c.from_planes.ensures
    ∙ planes-grid _ c.and_plane.ensures c.and_plane-2.ensures c.and_plane-3.ensures c.and_plane-4.ensures c.and_plane-5.ensures
