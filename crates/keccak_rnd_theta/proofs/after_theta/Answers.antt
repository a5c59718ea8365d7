-- `after_theta` meets its contract: the lanes of D, then the planes.
use mathlib.Core.Path.{ap, ◌∙◌}
use Prim.Native.Nat.{ℕ, ◌-◌}
use lib.ListN.{get_or}
use mathlib.Core.List.{List, []}
use lib.Bits.{bit_xor}
use Rattle.lists.specs.Tab.{word}
use Rattle.lists.proofs.Laws.{get_d-tab}
use Rattle.bits.specs.Bits.{lane_of}
use Rattle.fips202.specs.Lanes.{grid, lane, theta_at}
use Rattle.fips202.proofs.Steps.{grid-same}
use Rattle.keccak_rnd.proofs.Tables.{five}
use Rattle.keccak_rnd_theta.proofs.after_theta.Goals as goal

pub returns : goal.returns
unfolding theta_at
returns c =
    let s = c.args.s in
    let f : ℕ → ℕ = λ x. lane_of (word (get_or c.args.d x [])) in
    c.theta_planes.ensures
    ∙ ap (λ (d : List ℕ). grid (theta_at s d)) (five f c.lane_of.ensures c.lane_of-2.ensures c.lane_of-3.ensures c.lane_of-4.ensures c.lane_of-5.ensures)
    ∙ grid-same _ _ (λ x y hx hy. ap (bit_xor (lane s x y)) (get_d-tab 5 f x 0 hx))
