-- `keccak_tables_keccak_row` meets its contract: the answer of the call that it wraps, flat.
use mathlib.Core.Path.{ap, ◌∙◌}
use Rattle.flat.specs.Flat.{flat_answer}
use Rattle.keccak_tables.proofs.core_calls.keccak_tables_keccak_row.Goals as goal

pub returns : goal.returns
returns c = record { answer = c.flat_answer.ensures ∙ ap flat_answer c.keccak_row.ensures.answer; words = c.keccak_row.ensures.words }
