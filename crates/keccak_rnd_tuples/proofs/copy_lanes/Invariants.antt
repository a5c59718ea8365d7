-- `keccak_rnd_tuples::copy_lanes` meets its contract: after y turns the first y lanes are stored.
use Prim.Native.Nat.{◌*◌}
use Rattle.lists.proofs.Laws.{Filled}
use Rattle.keccak_rnd_tuples.specs.States.{lane_word}
use Rattle.keccak_rnd_tuples.proofs.copy_lanes.Given as goal

abbrev pub invariant-loop-y : goal.invariant-loop-y
invariant-loop-y l = Filled l.initial.out l.at (l.n * 8) (lane_word l.row l.from) l.out (l.y * 8)
