-- `keccak_tables_add_ops` meets its contract: the answer of the call that it wraps, flat.
use mathlib.Core.Path.{ap, ◌∙◌}
use Rattle.flat.specs.Flat.{flat_answer}
use Rattle.keccak_tables.proofs.counters.keccak_tables_add_ops.Goals as goal

pub returns : goal.returns
returns c = record { answer = c.flat_answer.ensures ∙ ap flat_answer c.add_ops.ensures.answer; words = c.add_ops.ensures.words }
