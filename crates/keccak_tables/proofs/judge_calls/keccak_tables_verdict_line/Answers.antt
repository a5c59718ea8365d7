-- `keccak_tables_verdict_line` meets its contract: the answer of the call that it wraps, flat.
use mathlib.Core.Path.{ap, ◌∙◌}
use Rattle.flat.specs.Flat.{flat_number}
use Rattle.keccak_tables.proofs.judge_calls.keccak_tables_verdict_line.Goals as goal

pub returns : goal.returns
returns c = record { answer = c.flat_number.ensures ∙ ap flat_number c.verdict_line.ensures.answer; bytes = c.verdict_line.ensures.bytes }
