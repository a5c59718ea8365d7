-- `keccak_tables_register_charge` meets its contract: the answer of the call that it wraps, flat.
use mathlib.Core.Path.{ap, ◌∙◌}
use Rattle.flat.specs.Flat.{flat_answer}
use Rattle.keccak_tables.proofs.register_calls.keccak_tables_register_charge.Goals as goal

pub returns : goal.returns
returns c = record { answer = c.flat_answer.ensures ∙ ap flat_answer c.charge.ensures.answer; counted = c.charge.ensures.counted; added = c.charge.ensures.added }
