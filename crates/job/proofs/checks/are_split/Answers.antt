-- `job::checks::are_split` meets its contract: pairs, then the core rows, then the round rows.
use mathlib.Core.Path.{sym, ◌∙◌}
use Rattle.job.proofs.Refusals.{split-odd, split-core, split_rest}
use Rattle.job.proofs.checks.are_split.Goals as goal

pub returns-then-counts-ne0 : goal.returns-then-counts-ne0
returns-then-counts-ne0 c = sym (split-odd _ _ _ c.if-counts-ne0.true)

pub returns-then-not-adds_up : goal.returns-then-not-adds_up
returns-then-not-adds_up c = sym (split-core _ _ _ c.if-counts-ne0.false (sym c.adds_up.ensures ∙ c.if-not-adds_up.true))

pub returns : goal.returns
returns c =
    c.adds_up-2.ensures ∙ sym (split_rest _ _ _ c.if-counts-ne0.false (sym c.adds_up.ensures ∙ c.if-not-adds_up.false))
