-- `lane_at` meets its contract: the bytes are taken from the highest down.
use Prim.Native.Nat.{◌+◌}
use Rattle.sha3.specs.Sha3.{padded_byte}
use Rattle.sha3.proofs.Padding.{Packed}
use Rattle.sha3.proofs.lane_at.Given as goal

abbrev pub invariant-loop-n : goal.invariant-loop-n
invariant-loop-n l = Packed (λ b. padded_byte l.message (l.at + b)) l.n l.lane
