-- `keccak_tables_keccak_rnd_row` meets its contract: the answer of the call that it wraps, flat.
use mathlib.Core.Path.{ap, ◌∙◌}
use Rattle.flat.specs.Flat.{flat_answer}
use Rattle.keccak_tables.proofs.round_calls.keccak_tables_keccak_rnd_row.Goals as goal

pub returns : goal.returns
returns c = record { answer = c.flat_answer.ensures ∙ ap flat_answer c.keccak_rnd_row.ensures.answer; words = c.keccak_rnd_row.ensures.words }
