-- `sha3_256` meets its contract.
use mathlib.Core.Path.{ap, ◌∙◌}
use mathlib.Core.List.{List}
use Prim.Native.Nat.{ℕ}
use Rattle.lists.specs.Tab.{tab}
use Rattle.bits.specs.Bits.{lane_byte}
use Rattle.sha3.specs.Sha3.{sha3-256}
use Rattle.sha3.proofs.sha3_256.Goals as goal

pub returns : goal.returns
unfolding sha3-256
returns c = c.digest.ensures ∙ ap (λ (s : List ℕ). tab 32 (lane_byte s)) c.absorb.ensures
