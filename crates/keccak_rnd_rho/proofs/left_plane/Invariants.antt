-- `left_plane` meets its contract: the lanes are stored one after the other.
use Prim.Native.Nat.{◌<◌}
use Rattle.lists.proofs.Laws.{Filled}
use Rattle.keccak_rnd.specs.Parts.{left_lane}
use Rattle.keccak_rnd_rho.proofs.left_plane.Given as goal

abbrev pub invariant-loop-x : goal.invariant-loop-x
invariant-loop-x l = (l.y < 5) × Filled l.initial.p 0 5 (λ x. left_lane l.t x l.y) l.p l.x
