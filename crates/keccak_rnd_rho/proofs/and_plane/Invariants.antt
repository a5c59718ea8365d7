-- `and_plane` meets its contract: the lanes are stored one after the other.
use Prim.Native.Nat.{◌<◌}
use Rattle.lists.proofs.Laws.{Filled}
use Rattle.keccak_rnd.specs.Row.{and_at}
use Rattle.keccak_rnd_rho.proofs.and_plane.Given as goal

abbrev pub invariant-loop-x : goal.invariant-loop-x
invariant-loop-x l = (l.y < 5) × Filled l.initial.p 0 5 (λ x. and_at l.u x l.y) l.p l.x
