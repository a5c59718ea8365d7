-- `keccak_tables_month` meets its contract: the answer of the call that it wraps, flat.
use mathlib.Core.Path.{ap, ◌∙◌}
use Rattle.flat.specs.Flat.{flat_answer}
use Rattle.keccak_tables.proofs.month_calls.keccak_tables_month.Goals as goal

pub returns : goal.returns
returns c = record { answer = c.flat_answer.ensures ∙ ap flat_answer c.month.ensures.answer; words = c.month.ensures.words }
