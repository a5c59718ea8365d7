-- `field::Fe::sub` meets its contract: the difference itself, or from p on down.
use native.Mathlib.Omega.{arith}
use Rattle.field.proofs.Fe.sub.Goals as goal

pub returns-then-x-y : goal.returns-then-x-y
returns-then-x-y c = record { difference = omega arith; below = omega arith }

pub returns-else-x-y : goal.returns-else-x-y
returns-else-x-y c = record { difference = omega arith; below = omega arith }
