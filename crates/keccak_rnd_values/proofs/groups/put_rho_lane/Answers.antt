use mathlib.Core.Path.{ap}
use Prim.Native.Nat.{ℕ, ◌%◌}
use native.Mathlib.Omega.{arith}
use Rattle.lists.proofs.Laws.{filled_none, filled_more, filled-all}
use Rattle.keccak_rnd_values.proofs.groups.put_rho_lane.Goals as goal

pub loop-hw-init : goal.loop-hw-init
loop-hw-init c = (ap (λ (k : ℕ). k % 16) c.rho_offset-power.ensures, filled_none _ _ _ _)

pub rho_value-value-requires : goal.rho_value-value-requires
rho_value-value-requires c = (c.requires.0, c.requires.1, c.requires.2, c.loop-hw.invariant.0, omega arith)

pub loop-hw-preserved : goal.loop-hw-preserved
loop-hw-preserved c =
    let l = c.loop-hw in
    (l.invariant.0, filled_more _ l.invariant.1 c.loop-hw-test.true c.rho_value-value.ensures)

pub returns : goal.returns
returns c = filled-all c.loop-hw.invariant.1 c.loop-hw-test.false
