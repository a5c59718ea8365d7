-- `keccak_tables_register_look` meets its contract: the answer of the call that it wraps, flat.
use mathlib.Core.Path.{ap, ◌∙◌}
use Rattle.flat.specs.Flat.{flat_answer}
use Rattle.keccak_tables.proofs.register_calls.keccak_tables_register_look.Goals as goal

pub returns : goal.returns
returns c = record { answer = c.flat_answer.ensures ∙ ap flat_answer c.look.ensures.answer; copied = c.look.ensures.copied; words = c.look.ensures.words }
