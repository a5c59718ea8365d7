use native.Mathlib.Omega.{arith}
use Rattle.lists.proofs.Laws.{filled_none, filled-all}
use Rattle.keccak_rnd.specs.Values.{rho_value}
use Rattle.keccak_rnd_values.proofs.Parts.{filled-twenty}
use Rattle.keccak_rnd_values.proofs.groups.put_rho_values.Goals as goal

pub loop-x-init : goal.loop-x-init
loop-x-init c = filled_none _ _ _ _

pub put_rho_lanes-requires : goal.put_rho_lanes-requires
put_rho_lanes-requires c = (c.requires.0, omega arith, omega arith)

pub loop-x-preserved : goal.loop-x-preserved
loop-x-preserved c = filled-twenty _ (rho_value c.args.row.now) c.loop-x.invariant (omega arith) c.put_rho_lanes.ensures

pub returns : goal.returns
returns c = filled-all c.loop-x.invariant (omega arith)
