-- `keccak_tables_verdict_within` meets its contract: the verdict of the call that it wraps, flat.
use mathlib.Core.Path.{ap, ◌∙◌}
use Rattle.flat.specs.FlatJudged.{flat_verdict}
use Rattle.keccak_tables.proofs.judge_calls.keccak_tables_verdict_within.Goals as goal

pub returns : goal.returns
returns c = record { verdict = c.flat_verdict.ensures ∙ ap flat_verdict c.verdict_within.ensures.verdict; scratch = c.verdict_within.ensures.scratch; spare = c.verdict_within.ensures.spare }
