-- `keccak_rnd_terms::pi_at` meets its contract: the sum at the place that the offset names is the byte of π.
use mathlib.Core.Path.{◌∙◌}
use Rattle.keccak_rnd_terms.proofs.Terms.{source-sum}
use Rattle.keccak_rnd_terms.proofs.pi_at.Goals as goal

pub returns : goal.returns
returns c = c.pi_byte.ensures ∙ source-sum c.pi_source-source.ensures _ _
