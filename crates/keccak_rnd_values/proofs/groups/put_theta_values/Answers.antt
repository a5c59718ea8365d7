use native.Mathlib.Omega.{arith}
use Rattle.lists.proofs.Laws.{filled_none, filled-all}
use Rattle.keccak_rnd.specs.Values.{theta_value}
use Rattle.keccak_rnd_values.proofs.Parts.{filled-four}
use Rattle.keccak_rnd_values.proofs.groups.put_theta_values.Goals as goal

pub loop-x-init : goal.loop-x-init
loop-x-init c = filled_none _ _ _ _

pub put_theta_column-requires : goal.put_theta_column-requires
put_theta_column-requires c = (c.requires.0, omega arith, omega arith)

pub loop-x-preserved : goal.loop-x-preserved
loop-x-preserved c = filled-four _ (theta_value c.args.row.now) c.loop-x.invariant (omega arith) c.put_theta_column.ensures

pub returns : goal.returns
returns c = filled-all c.loop-x.invariant (omega arith)
