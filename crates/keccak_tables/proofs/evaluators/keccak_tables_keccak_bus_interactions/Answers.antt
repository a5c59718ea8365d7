-- `keccak_tables_keccak_bus_interactions` meets its contract: the answer of the call that it wraps, flat.
use mathlib.Core.Path.{ap, ◌∙◌}
use Rattle.flat.specs.Flat.{flat_answer}
use Rattle.keccak_tables.proofs.evaluators.keccak_tables_keccak_bus_interactions.Goals as goal

pub returns : goal.returns
returns c = record { answer = c.flat_answer.ensures ∙ ap flat_answer c.bus_interactions.ensures.answer; words = c.bus_interactions.ensures.words }
