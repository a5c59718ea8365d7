-- `byte_tuples::words::put_alu_lane` meets its contract: after z turns the first z tuples are stored.
use Prim.Native.Nat.{◌+◌, ◌*◌}
use Rattle.byte_tuples.specs.Lanes.{alu_lane}
use Rattle.tuple.proofs.Words.{Listed}
use Rattle.byte_tuples.proofs.words.put_alu_lane.Given as goal

abbrev pub invariant-loop-z : goal.invariant-loop-z
invariant-loop-z l = Listed l.initial.out l.at (alu_lane l.multiplicity l.number l.a l.b l.row l.c) 8 l.out l.z (l.at + 8 * l.z)
