-- `keccak_lookups::put_address` meets its contract: after i turns the first i words are stored.
use Rattle.lists.proofs.Laws.{Filled}
use Rattle.residue.specs.Residue.{residues}
use Rattle.keccak.specs.Tuples.{addr_bytes_tuple}
use Rattle.keccak_lookups.proofs.put_address.Given as goal

abbrev pub invariant-loop-i : goal.invariant-loop-i
invariant-loop-i l = Filled l.initial.out 55 4 (residues (addr_bytes_tuple l.row)) l.out l.i
