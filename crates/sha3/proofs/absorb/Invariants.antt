-- `absorb` meets its contract: after i turns the state has absorbed i blocks.
use mathlib.Core.Path.{◌≡◌}
use Prim.Native.Nat.{◌≤◌}
use Rattle.sha3.specs.Sha3.{blocks, absorbed}
use Rattle.sha3.proofs.absorb.Given as goal

abbrev pub invariant-loop-i : goal.invariant-loop-i
invariant-loop-i l = (l.i ≤ l.n) × (l.n ≡ blocks l.message) × (l.state.lanes ≡ absorbed l.message l.i)
