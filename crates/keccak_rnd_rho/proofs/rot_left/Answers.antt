-- `rot_left` meets its contract: it is made of its planes.
use mathlib.Core.Path.{◌∙◌}
use Rattle.fips202.proofs.Steps.{planes-grid}
use Rattle.keccak_rnd_rho.proofs.rot_left.Goals as goal

pub returns : goal.returns
returns c =
    c.from_planes.ensures
    ∙ planes-grid _ c.left_plane.ensures c.left_plane-2.ensures c.left_plane-3.ensures c.left_plane-4.ensures c.left_plane-5.ensures
