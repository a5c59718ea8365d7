-- `keccak_rnd_counts::steps::charge_column` meets its contract: four lanes, one after the other.
use native.Mathlib.Omega.{arith}
use Rattle.keccak_rnd_counts.proofs.Charging.{still-elements, column-charged}
use Rattle.keccak_rnd_counts.proofs.steps.charge_column.Goals as goal

pub charge_lane-requires-2 : goal.charge_lane-requires-2
charge_lane-requires-2 c = (still-elements _ c.requires.0 c.charge_lane.ensures, omega arith)

pub charge_lane-requires-3 : goal.charge_lane-requires-3
charge_lane-requires-3 c =
    let one = still-elements _ c.requires.0 c.charge_lane.ensures in
    (still-elements _ one c.charge_lane-2.ensures, omega arith)

pub charge_lane-requires-4 : goal.charge_lane-requires-4
charge_lane-requires-4 c =
    let one = still-elements _ c.requires.0 c.charge_lane.ensures in
    let two = still-elements _ one c.charge_lane-2.ensures in
    (still-elements _ two c.charge_lane-3.ensures, omega arith)

pub returns : goal.returns
returns c =
    column-charged c.args.s c.args.x c.requires.0 c.charge_lane.ensures c.charge_lane-2.ensures c.charge_lane-3.ensures c.charge_lane-4.ensures
