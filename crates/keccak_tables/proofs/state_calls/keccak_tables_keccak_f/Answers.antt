-- `keccak_tables_keccak_f` meets its contract: the answer of the call that it wraps, flat.
use mathlib.Core.Path.{ap, ◌∙◌}
use Rattle.flat.specs.Flat.{flat_answer}
use Rattle.keccak_tables.proofs.state_calls.keccak_tables_keccak_f.Goals as goal

pub returns : goal.returns
returns c = record { answer = c.flat_answer.ensures ∙ ap flat_answer c.keccak_f.ensures.answer; words = c.keccak_f.ensures.words }
