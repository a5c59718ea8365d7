-- `operation_at` meets its contract: each field is read from its place.
use native.Mathlib.Omega.{arith}
use Rattle.keccak.specs.Row.{op_at}
use Rattle.operations.proofs.operation_at.Goals as goal

pub overflow_cast-result : goal.overflow_cast-result
unfolding op_at
overflow_cast-result c = omega arith

pub returns : goal.returns
unfolding op_at
returns c = cc
