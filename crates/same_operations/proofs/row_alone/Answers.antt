-- `same_operations::row_alone` meets its contract: MU, then the copies before it against the equal records.
use mathlib.Core.Path.{sym, ◌∙◌}
use Rattle.judge_scan.specs.Tables.{layout_of}
use Rattle.same_operations.proofs.Agree.{row-alone-is, row-off}
use Rattle.same_operations.proofs.row_alone.Goals as goal

pub is_active-requires : goal.is_active-requires
unfolding layout_of
is_active-requires c = c.requires.3

pub returns-then-not-is_active : goal.returns-then-not-is_active
unfolding layout_of
returns-then-not-is_active c = row-off _ _ _ (sym c.is_active.ensures ∙ c.if-not-is_active.true)

pub count_rows-copies-requires : goal.count_rows-copies-requires
count_rows-copies-requires c = (c.requires.2, c.requires.3)

pub has_more_records-requires : goal.has_more_records-requires
has_more_records-requires c = (c.requires.3, c.requires.1, c.requires.0.stands)

pub returns : goal.returns
unfolding layout_of
returns c = row-alone-is _ _ c.requires.0 (sym c.is_active.ensures ∙ c.if-not-is_active.false) c.requires.2 c.requires.1 c.count_rows-copies.ensures c.has_more_records.ensures
