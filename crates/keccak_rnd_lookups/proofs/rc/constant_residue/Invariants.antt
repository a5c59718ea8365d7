-- `keccak_rnd_lookups::rc::constant_residue` meets its contract: after b turns off is the OR of the first b differences.
use mathlib.Core.Path.{◌≡◌}
use lib.Bits.{bit_xor}
use Prim.Native.Nat.{◌+◌}
use Rattle.lists.specs.Tab.{word}
use Rattle.bits.specs.Bits.{byte_at}
use Rattle.residue.specs.Residue.{or_all}
use Rattle.keccak_rnd_lookups.proofs.rc.constant_residue.Given as goal

abbrev pub invariant-loop-b : goal.invariant-loop-b
invariant-loop-b l = l.off ≡ or_all l.b (λ j. bit_xor (byte_at l.constant j) (word l.row (1463 + j)))
