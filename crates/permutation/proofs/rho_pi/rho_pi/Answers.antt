-- `rho_pi` meets its contract: it is made of its planes.
use mathlib.Core.Path.{◌∙◌}
use Rattle.fips202.specs.Lanes.{rho_pi_at, rho_pi_l}
use Rattle.fips202.proofs.Steps.{planes-grid}
use Rattle.permutation.proofs.rho_pi.rho_pi.Goals as goal

pub returns : goal.returns
unfolding rho_pi_l
returns c =
    c.joined.ensures
    ∙ planes-grid (rho_pi_at c.args.a) c.rho_pi_plane.ensures c.rho_pi_plane-2.ensures c.rho_pi_plane-3.ensures c.rho_pi_plane-4.ensures c.rho_pi_plane-5.ensures
