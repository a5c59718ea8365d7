-- `byte_tuples::words::put_bytes_lane` meets its contract: after z turns the first z pairs are stored.
use Prim.Native.Nat.{◌+◌, ◌*◌}
use Rattle.tuple.proofs.Words.{Listed}
use Rattle.byte_tuples.specs.Lanes.{bytes_lane}
use Rattle.byte_tuples.proofs.words.put_bytes_lane.Given as goal

abbrev pub invariant-loop-z : goal.invariant-loop-z
invariant-loop-z l = Listed l.initial.out l.at (bytes_lane l.row l.a l.b) 8 l.out l.z (l.at + 6 * l.z)
