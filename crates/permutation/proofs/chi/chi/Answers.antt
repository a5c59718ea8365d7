-- `chi` meets its contract: it is made of its planes.
use mathlib.Core.Path.{◌∙◌}
use Rattle.fips202.specs.Lanes.{chi_at, chi_l}
use Rattle.fips202.proofs.Steps.{planes-grid}
use Rattle.permutation.proofs.chi.chi.Goals as goal

pub returns : goal.returns
unfolding chi_l
returns c =
    c.joined.ensures
    ∙ planes-grid (chi_at c.args.a) c.chi_plane.ensures c.chi_plane-2.ensures c.chi_plane-3.ensures c.chi_plane-4.ensures c.chi_plane-5.ensures
