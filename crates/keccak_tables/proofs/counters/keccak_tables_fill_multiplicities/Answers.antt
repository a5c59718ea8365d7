-- `keccak_tables_fill_multiplicities` meets its contract: the answer of the call that it wraps, flat.
use mathlib.Core.Path.{ap, ◌∙◌}
use Rattle.flat.specs.Flat.{flat_answer}
use Rattle.keccak_tables.proofs.counters.keccak_tables_fill_multiplicities.Goals as goal

pub returns : goal.returns
returns c = record { answer = c.flat_answer.ensures ∙ ap flat_answer c.fill_multiplicities.ensures.answer; words = c.fill_multiplicities.ensures.words }
