-- `keccak_tables_collect_bitwise_from_is_wh` meets its contract: the answer of the call that it wraps, flat.
use mathlib.Core.Path.{ap, ◌∙◌}
use Rattle.flat.specs.Flat.{flat_answer}
use Rattle.keccak_tables.proofs.key_rows.keccak_tables_collect_bitwise_from_is_wh.Goals as goal

pub returns : goal.returns
returns c = record { answer = c.flat_answer.ensures ∙ ap flat_answer c.collect_bitwise_from_is_wh.ensures.answer; words = c.collect_bitwise_from_is_wh.ensures.counters }
