-- `keccak_tables_keccak_rows` meets its contract: the answer of the call that it wraps, flat.
use mathlib.Core.Path.{ap, ◌∙◌}
use Rattle.flat.specs.Flat.{flat_answer}
use Rattle.keccak_tables.proofs.core_calls.keccak_tables_keccak_rows.Goals as goal

pub returns : goal.returns
returns c = record { answer = c.flat_answer.ensures ∙ ap flat_answer c.keccak_rows.ensures.answer; words = c.keccak_rows.ensures.words }
