-- `keccak_rnd_operands::state_operands` meets its contract, group by group.
use native.Mathlib.Omega.{arith}
use Rattle.keccak_rnd_operands.proofs.Groups.{chi-operands, theta-operands, iota-operands, same-lane, ands-operands}
use Rattle.keccak_rnd_operands.proofs.state_operands.Goals as goal

pub returns-then-l-eq-IOTA_LANE : goal.returns-then-l-eq-IOTA_LANE
returns-then-l-eq-IOTA_LANE c = same-lane (omega arith) iota-operands

pub returns-then-l-lt-CHI_ANDS_LANE : goal.returns-then-l-lt-CHI_ANDS_LANE
returns-then-l-lt-CHI_ANDS_LANE c = same-lane (omega arith) (theta-operands _ (omega arith))

pub returns-then-l-lt-CHI_LANE : goal.returns-then-l-lt-CHI_LANE
returns-then-l-lt-CHI_LANE c = same-lane (omega arith) (ands-operands _ (omega arith))

pub returns : goal.returns
returns c = same-lane (omega arith) (chi-operands _ (omega arith))
