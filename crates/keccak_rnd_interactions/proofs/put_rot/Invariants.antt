-- `keccak_rnd_interactions::put_rot` meets its contract: after l turns the first l lanes are stored.
use Prim.Native.Nat.{◌+◌, ◌*◌}
use Rattle.keccak_rnd.specs.Tuples.{round_tuple}
use Rattle.tuple.proofs.Words.{Listed}
use Rattle.keccak_rnd_interactions.proofs.put_rot.Given as goal

abbrev pub invariant-loop-l : goal.invariant-loop-l
invariant-loop-l l = Listed l.initial.out l.at (λ i. round_tuple l.row (423 + i)) 200 l.out (8 * l.l) (l.at + 48 * l.l)
