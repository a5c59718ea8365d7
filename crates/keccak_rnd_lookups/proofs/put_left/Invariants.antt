-- `keccak_rnd_lookups::put_left` meets its contract: after i turns the first i residues are stored.
use Prim.Native.Nat.{◌+◌}
use Rattle.keccak_rnd.specs.Tuples.{round_tuple}
use Rattle.lists.proofs.Laws.{Filled}
use Rattle.residue.specs.Residue.{residues}
use Rattle.keccak_rnd_lookups.proofs.put_left.Given as goal

abbrev pub invariant-loop-i : goal.invariant-loop-i
invariant-loop-i l = Filled l.initial.out 163 20 (residues (λ j. round_tuple l.row (163 + j))) l.out l.i
