use native.Mathlib.Omega.{arith}
use Rattle.lists.proofs.Laws.{filled_none, filled-all}
use Rattle.keccak_rnd.specs.Values.{rho_value}
use Rattle.keccak_rnd_values.proofs.Parts.{filled-four}
use Rattle.keccak_rnd_values.proofs.groups.put_rho_lanes.Goals as goal

pub loop-y-init : goal.loop-y-init
loop-y-init c = filled_none _ _ _ _

pub put_rho_lane-requires : goal.put_rho_lane-requires
put_rho_lane-requires c = (c.requires.0, c.requires.1, omega arith, omega arith)

pub loop-y-preserved : goal.loop-y-preserved
loop-y-preserved c = let a = c.args in filled-four _ (rho_value a.row.now a.x) c.loop-y.invariant (omega arith) c.put_rho_lane.ensures

pub returns : goal.returns
returns c = filled-all c.loop-y.invariant (omega arith)
