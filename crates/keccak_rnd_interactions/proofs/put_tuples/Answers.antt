-- `keccak_rnd_interactions::put_tuples` meets its contract: the terms are those of the row.
use native.Mathlib.Omega.{arith}
use Rattle.keccak_rnd_terms.proofs.Terms.{terms-of}
use Rattle.keccak_rnd_interactions.proofs.put_tuples.Goals as goal

pub put_runs-requires : goal.put_runs-requires
put_runs-requires c = (c.requires.0, terms-of _ _ _ (omega arith) c.put_terms.ensures, c.requires.1)
