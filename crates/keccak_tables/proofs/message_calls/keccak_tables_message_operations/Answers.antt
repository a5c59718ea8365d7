-- `keccak_tables_message_operations` meets its contract: the answer of the call that it wraps, flat.
use mathlib.Core.Path.{ap, ◌∙◌}
use Rattle.flat.specs.Flat.{flat_number}
use Rattle.keccak_tables.proofs.message_calls.keccak_tables_message_operations.Goals as goal

pub returns : goal.returns
returns c = record { answer = c.flat_number.ensures ∙ ap flat_number c.message_operations.ensures.answer; words = c.message_operations.ensures.words }
