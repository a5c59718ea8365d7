-- `keccak_rnd_lookups::put_alu_lanes` meets its contract: after l turns the first l lanes are stored.
use Prim.Native.Nat.{◌+◌, ◌*◌}
use Rattle.keccak_rnd_operands.specs.Lanes.{alu_tuple}
use Rattle.lists.proofs.Laws.{Filled}
use Rattle.residue.specs.Residue.{residues}
use Rattle.keccak_rnd_lookups.proofs.put_alu_lanes.Given as goal

abbrev pub invariant-loop-l : goal.invariant-loop-l
invariant-loop-l l = Filled l.initial.out l.at (8 * l.n) (residues (λ i. alu_tuple l.row (8 * l.from + i))) l.out (8 * l.l)
