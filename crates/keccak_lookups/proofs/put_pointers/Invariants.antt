-- `keccak_lookups::put_pointers` meets its contract: after i turns the words of the first i pointers are stored.
use Prim.Native.Nat.{◌*◌, ◌/◌, ◌%◌}
use Rattle.lists.proofs.Laws.{Filled}
use Rattle.residue.specs.Residue.{residues}
use Rattle.keccak.specs.Tuples.{pointer_tuple}
use Rattle.keccak_lookups.proofs.put_pointers.Given as goal

abbrev pub invariant-loop-i : goal.invariant-loop-i
invariant-loop-i l = Filled l.initial.out 4 50 (residues (λ k. pointer_tuple l.row (k / 2) (k % 2))) l.out (2 * l.i)
