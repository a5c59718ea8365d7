-- `keccak_rnd_lookups::put_round_lookups` meets its contract: a residue is 0 exactly where the tuple needs no match or has one.
use native.Mathlib.Omega.{arith}
use Rattle.keccak_rnd_terms.proofs.Terms.{terms-of}
use Rattle.residue.proofs.Stored.{marked}
use Rattle.keccak_rnd_lookups.proofs.put_round_lookups.Goals as goal

pub returns-then-row-eq0 : goal.returns-then-row-eq0
returns-then-row-eq0 c = marked 1031 _ _ _ c.requires.1 c.put_padding.ensures

pub put_residues-requires : goal.put_residues-requires
put_residues-requires c = (c.requires.0, terms-of _ _ _ (omega arith) c.put_terms.ensures, c.requires.1)

pub returns : goal.returns
returns c = marked 1031 _ _ _ c.requires.1 c.put_residues.ensures
