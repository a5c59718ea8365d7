-- `keccak_tables_keccak_rc_update_multiplicities` meets its contract: the answer of the call that it wraps, flat.
use mathlib.Core.Path.{ap, ◌∙◌}
use Rattle.flat.specs.Flat.{flat_answer}
use Rattle.keccak_tables.proofs.lookups.keccak_tables_keccak_rc_update_multiplicities.Goals as goal

pub returns : goal.returns
returns c = record { answer = c.flat_answer.ensures ∙ ap flat_answer c.update_multiplicities.ensures.answer; words = c.update_multiplicities.ensures.words }
