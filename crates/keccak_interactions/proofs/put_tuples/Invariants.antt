-- `keccak_interactions::put_tuples` meets its contract: after i turns the first i tuples are stored.
use Rattle.tuple.proofs.Words.{Listed}
use Rattle.keccak.specs.Tuples.{core_tuple}
use Rattle.keccak_interactions.proofs.put_tuples.Given as goal

abbrev pub invariant-loop-i : goal.invariant-loop-i
invariant-loop-i l = Listed l.initial.out 0 (core_tuple l.nr l.syscall l.row) 84 l.out l.i l.at
