-- `lane_of` meets its contract: eight bytes are four halfwords.
use native.Mathlib.Omega.{arith}
use Rattle.bits.specs.Bits.{pack}
use Rattle.keccak_rnd_theta.proofs.lane_of.Goals as goal

pub returns : goal.returns
unfolding pack
returns c = omega arith
