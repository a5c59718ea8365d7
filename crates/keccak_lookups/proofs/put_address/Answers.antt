use Rattle.lists.proofs.Laws.{filled_none, filled_more, filled-all}
use Rattle.residue.specs.Residue.{residues}
use Rattle.keccak.specs.Tuples.{addr_bytes_tuple}
use Rattle.keccak_lookups.proofs.put_address.Goals as goal

pub loop-i-init : goal.loop-i-init
loop-i-init c = filled_none _ _ _ _

pub loop-i-preserved : goal.loop-i-preserved
unfolding residues addr_bytes_tuple
loop-i-preserved c = filled_more _ c.loop-i.invariant c.loop-i-test.true c.bytes_residue.ensures

pub returns : goal.returns
returns c = filled-all c.loop-i.invariant c.loop-i-test.false
