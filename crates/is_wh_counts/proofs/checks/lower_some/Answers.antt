-- `is_wh_counts::checks::lower_some` meets its contract: nothing where n is 0.
use mathlib.Core.Path.{◌∙◌}
use Rattle.is_wh_counts.proofs.Searching.{lower-none, lower-some}
use Rattle.is_wh_counts.proofs.checks.lower_some.Goals as goal

pub returns-then-n-eq0 : goal.returns-then-n-eq0
returns-then-n-eq0 c = lower-none _ _ _ _ c.if-n-eq0.true

pub returns : goal.returns
returns c = c.lower_large.ensures ∙ lower-some _ _ _ _ c.if-n-eq0.false
