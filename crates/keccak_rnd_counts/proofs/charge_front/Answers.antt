-- `keccak_rnd_counts::charge_front` meets its contract: the steps follow each other (Charging.antt).
use mathlib.Core.Path.{ap, ◌∙◌}
use mathlib.Core.List.{List}
use Prim.Native.Nat.{ℕ}
use Rattle.lists.specs.Tab.{tab}
use Rattle.fips202.specs.Lanes.{grid, theta_dl, theta_at, theta_l}
use Rattle.keccak_rnd_counts.proofs.Charging.{still-elements, front-charged}
use Rattle.keccak_rnd_counts.proofs.charge_front.Goals as goal

pub charge_turns-requires : goal.charge_turns-requires
charge_turns-requires c = still-elements _ c.requires c.charge_columns.ensures

pub charge_theta-requires : goal.charge_theta-requires
charge_theta-requires c = still-elements _ (still-elements _ c.requires c.charge_columns.ensures) c.charge_turns.ensures

pub returns : goal.returns
unfolding theta_l
returns c =
    let s = c.args.s in
    record {
      counters = front-charged c.requires s c.charge_columns.ensures c.parities-c.ensures c.charge_turns.ensures c.theta_d-d.ensures c.charge_theta.ensures;
      lanes = c.theta_planes.ensures ∙ ap (λ (k : List ℕ). grid (theta_at s k)) (c.theta_d-d.ensures ∙ ap (λ (k : List ℕ). tab 5 (theta_dl k)) c.parities-c.ensures);
    }
