-- `keccak_tables_generate_keccak_rnd_trace` meets its contract: the answer of the call that it wraps, flat.
use mathlib.Core.Path.{ap, ◌∙◌}
use Rattle.flat.specs.Flat.{flat_answer}
use Rattle.keccak_tables.proofs.round_calls.keccak_tables_generate_keccak_rnd_trace.Goals as goal

pub returns : goal.returns
returns c = record { answer = c.flat_answer.ensures ∙ ap flat_answer c.generate_keccak_rnd_trace.ensures.answer; words = c.generate_keccak_rnd_trace.ensures.words }
