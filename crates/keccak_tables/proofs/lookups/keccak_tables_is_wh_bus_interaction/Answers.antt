-- `keccak_tables_is_wh_bus_interaction` meets its contract: the answer of the call that it wraps, flat.
use mathlib.Core.Path.{ap, ◌∙◌}
use Rattle.flat.specs.Flat.{flat_tuple}
use Rattle.keccak_tables.proofs.lookups.keccak_tables_is_wh_bus_interaction.Goals as goal

pub returns : goal.returns
returns c = record { answer = c.flat_tuple.ensures ∙ ap flat_tuple c.bus_interaction.ensures.answer; words = c.bus_interaction.ensures.words }
