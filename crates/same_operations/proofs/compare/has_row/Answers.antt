-- `compare::has_row` meets its contract: the cells, then MU.
use mathlib.Core.Path.{◌∙◌}
use Rattle.judge_scan.specs.Tables.{layout_of}
use Rattle.same_operations.proofs.Equal.{rows-test, held-no, held_by}
use borrow.Author.Rules.{rules}
use Rattle.same_operations.proofs.compare.has_row.Goals as goal

pub returns-then-not-same_words : goal.returns-then-not-same_words
returns-then-not-same_words c = held-no _ _ _ (c.same_words.ensures ∙ rows-test _ _ _) c.if-not-same_words.true

pub is_active-requires : goal.is_active-requires
unfolding layout_of
is_active-requires c = search rules

pub returns : goal.returns
unfolding layout_of
returns c = held_by _ _ _ (c.same_words.ensures ∙ rows-test _ _ _) c.if-not-same_words.false c.is_active.ensures
