-- `rot_right` meets its contract: it is made of its planes.
use mathlib.Core.Path.{◌∙◌}
use Rattle.fips202.proofs.Steps.{planes-grid}
use Rattle.keccak_rnd_rho.proofs.rot_right.Goals as goal

pub returns : goal.returns
returns c =
    c.from_planes.ensures
    ∙ planes-grid _ c.right_plane.ensures c.right_plane-2.ensures c.right_plane-3.ensures c.right_plane-4.ensures c.right_plane-5.ensures
