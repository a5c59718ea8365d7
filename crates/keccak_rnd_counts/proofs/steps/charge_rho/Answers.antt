use mathlib.Core.Path.{ap, ap₂, ◌∙◌}
use Prim.Native.Nat.{ℕ, ◌%◌}
use native.Mathlib.Omega.{arith}
use lib.ListN.{get_or}
use Rattle.bits.specs.Bits.{byte_at, lane_of, left_byte, right_byte}
use Rattle.bitwise.specs.Charge.{charged_counters}
use Rattle.keccak_rnd_counts.specs.Lanes.{lane_adds, rho_adds}
use Rattle.keccak_rnd_counts.proofs.Charging.{parts_none, parts-elements, parts_more, parts_all}
use Rattle.keccak_rnd_counts.proofs.steps.charge_rho.Goals as goal

pub loop-i-init : goal.loop-i-init
loop-i-init c = parts_none c.requires

pub charge_lane-requires : goal.charge_lane-requires
charge_lane-requires c = (parts-elements c.loop-i.invariant, omega arith)

pub loop-i-preserved : goal.loop-i-preserved
unfolding rho_adds
loop-i-preserved c =
    let n = get_or c.args.t c.loop-i.i 0 in
    parts_more c.loop-i.invariant c.loop-i-test.true
    (c.charge_lane.ensures
    ∙ ap₂ (λ (x y : ℕ). charged_counters c.loop-i.counters (lane_adds 3 x y))
    (c.shift_lane-shifted.ensures.0 ∙ ap (λ (k : ℕ). lane_of (left_byte (byte_at n) (k % 16))) c.rho_offset.ensures)
    (c.shift_lane-shifted.ensures.1 ∙ ap (λ (k : ℕ). lane_of (right_byte (byte_at n) (k % 16))) c.rho_offset.ensures))

pub returns : goal.returns
returns c = parts_all c.loop-i.invariant c.loop-i-test.false
