-- `field::Fe::add` meets its contract: below p the sum itself, else p is taken off.
use native.Mathlib.Omega.{arith}
use Rattle.field.proofs.Fe.add.Goals as goal

pub returns-then-x-gap : goal.returns-then-x-gap
returns-then-x-gap c = record { sum = omega arith; below = omega arith }

pub returns-else-x-gap : goal.returns-else-x-gap
returns-else-x-gap c = record { sum = omega arith; below = omega arith }
