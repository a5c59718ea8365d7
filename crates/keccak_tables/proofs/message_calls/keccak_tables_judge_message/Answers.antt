-- `keccak_tables_judge_message` meets its contract: the answer of the call that it wraps, flat.
use mathlib.Core.Path.{ap, ◌∙◌}
use Rattle.flat.specs.FlatJudged.{flat_reply}
use Rattle.keccak_tables.proofs.message_calls.keccak_tables_judge_message.Goals as goal

pub returns : goal.returns
returns c = c.flat_reply.ensures ∙ ap flat_reply c.judge_message.ensures
