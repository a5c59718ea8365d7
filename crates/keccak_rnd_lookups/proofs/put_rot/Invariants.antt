-- `keccak_rnd_lookups::put_rot` meets its contract: after l turns the first l lanes are stored.
use Prim.Native.Nat.{◌+◌, ◌*◌}
use Rattle.keccak_rnd.specs.Tuples.{round_tuple}
use Rattle.lists.proofs.Laws.{Filled}
use Rattle.residue.specs.Residue.{residues}
use Rattle.keccak_rnd_lookups.proofs.put_rot.Given as goal

abbrev pub invariant-loop-l : goal.invariant-loop-l
invariant-loop-l l = Filled l.initial.out 423 200 (residues (λ i. round_tuple l.row (423 + i))) l.out (8 * l.l)
