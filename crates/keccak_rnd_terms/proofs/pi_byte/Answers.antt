-- `keccak_rnd_terms::pi_byte` meets its contract: the two parts are elements, and their sum is taken mod p.
use Rattle.keccak_rnd_terms.specs.Terms.{sum_of}
use Rattle.keccak_rnd_terms.proofs.pi_byte.Goals as goal

pub returns : goal.returns
unfolding sum_of
returns c = c.add-sum.ensures.sum
