-- `keccak_tables_is_wh_keys` meets its contract: the answer of the call that it wraps, flat.
use mathlib.Core.Path.{ap, ◌∙◌}
use Rattle.flat.specs.Flat.{flat_answer}
use Rattle.keccak_tables.proofs.core_calls.keccak_tables_is_wh_keys.Goals as goal

pub returns : goal.returns
returns c = record { answer = c.flat_answer.ensures ∙ ap flat_answer c.is_wh_keys.ensures.answer; words = c.is_wh_keys.ensures.words }
