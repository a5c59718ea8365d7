-- `keccak_tables_generate_bitwise_row` meets its contract: the answer of the call that it wraps, flat.
use mathlib.Core.Path.{ap, ◌∙◌}
use Rattle.flat.specs.Flat.{flat_answer}
use Rattle.keccak_tables.proofs.lookups.keccak_tables_generate_bitwise_row.Goals as goal

pub returns : goal.returns
returns c = record { answer = c.flat_answer.ensures ∙ ap flat_answer c.generate_bitwise_row.ensures.answer; words = c.generate_bitwise_row.ensures.words }
