-- `keccak_rnd_interactions::put_first` meets its contract: after i turns the first i tuples are stored.
use Rattle.tuple.proofs.Words.{Listed}
use Rattle.keccak_rnd.specs.Tuples.{round_tuple}
use Rattle.keccak_rnd_interactions.proofs.put_first.Given as goal

abbrev pub invariant-loop-i : goal.invariant-loop-i
invariant-loop-i l = Listed l.initial.out 0 (round_tuple l.row) 3 l.out l.i l.at
