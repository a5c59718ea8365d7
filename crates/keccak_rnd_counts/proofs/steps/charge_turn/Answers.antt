-- `keccak_rnd_counts::steps::charge_turn` meets its contract: the halfwords, then the lane of D.
use mathlib.Core.Path.{ap, ◌∙◌}
use Prim.Native.Nat.{ℕ, ◌+◌, ◌%◌}
use native.Mathlib.Omega.{arith}
use lib.ListN.{get_or}
use Rattle.bitwise.specs.Charge.{charged_counters}
use Rattle.keccak_rnd_counts.specs.Lanes.{lane_adds, halves_add, turn_adds}
use Rattle.keccak_rnd_counts.proofs.Charging.{still-elements, both-charged}
use Rattle.keccak_rnd_counts.proofs.steps.charge_turn.Goals as goal

pub charge_halves-requires : goal.charge_halves-requires
charge_halves-requires c = c.requires.0

pub charge_lane-requires : goal.charge_lane-requires
charge_lane-requires c =
    (still-elements _ c.requires.0 c.charge_halves.ensures, omega arith)

pub returns : goal.returns
unfolding turn_adds
returns c =
    both-charged _ _ c.requires.0
    (c.charge_halves.ensures ∙ ap (λ (n : ℕ). charged_counters c.args.counters.now (halves_add n)) c.shift_lane-shifted.ensures.0)
    (c.charge_lane.ensures ∙ ap (λ (n : ℕ). charged_counters c.charge_halves.new.counters (lane_adds 9 (get_or c.args.c ((c.args.x + 4) % 5) 0) n)) c.rotate_left-turned.ensures)
