-- `keccak_rnd_operands::parity_operands` meets its contract, group by group.
use native.Mathlib.Omega.{arith}
use Rattle.keccak_rnd_operands.proofs.Groups.{stage-operands, parity-operands, d-operands, same-lane}
use Rattle.keccak_rnd_operands.proofs.parity_operands.Goals as goal

pub returns-then-l-lt-STAGE_LANE : goal.returns-then-l-lt-STAGE_LANE
returns-then-l-lt-STAGE_LANE c = parity-operands _ c.if-l-lt-STAGE_LANE.true

pub returns-then-l-lt-DXZ_LANE : goal.returns-then-l-lt-DXZ_LANE
returns-then-l-lt-DXZ_LANE c = same-lane (omega arith) (stage-operands _ (omega arith))

pub returns : goal.returns
returns c = same-lane (omega arith) (d-operands _ (omega arith))
