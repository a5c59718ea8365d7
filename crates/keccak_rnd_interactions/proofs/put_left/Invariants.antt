-- `keccak_rnd_interactions::put_left` meets its contract: after i turns the first i tuples are stored.
use Prim.Native.Nat.{◌+◌, ◌*◌}
use Rattle.keccak_rnd.specs.Tuples.{round_tuple}
use Rattle.tuple.proofs.Words.{Listed}
use Rattle.keccak_rnd_interactions.proofs.put_left.Given as goal

abbrev pub invariant-loop-i : goal.invariant-loop-i
invariant-loop-i l = Listed l.initial.out l.at (λ j. round_tuple l.row (163 + j)) 20 l.out l.i (l.at + 6 * l.i)
