-- `theta` meets its contract.
use mathlib.Core.Path.{ap, ◌∙◌}
use mathlib.Core.List.{List}
use Prim.Native.Nat.{ℕ}
use Rattle.lists.specs.Tab.{tab}
use Rattle.fips202.specs.Lanes.{grid, theta_dl, theta_at, theta_l}
use Rattle.permutation.proofs.theta.theta.Goals as goal

pub returns : goal.returns
unfolding theta_l
returns c =
    c.theta_planes.ensures
    ∙ ap (λ (d : List ℕ). grid (theta_at c.args.a d))
    (c.theta_d.ensures ∙ ap (λ (c : List ℕ). tab 5 (theta_dl c)) c.parities.ensures)
