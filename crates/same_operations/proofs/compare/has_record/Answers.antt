-- `compare::has_record` meets its contract: the cells, then MU.
use Rattle.judge_scan.specs.Tables.{layout_of}
use Rattle.same_operations.proofs.Equal.{held-no, held_by}
use Rattle.same_operations.proofs.compare.has_record.Goals as goal

pub returns-then-not-is_record : goal.returns-then-not-is_record
returns-then-not-is_record c = held-no _ _ _ c.is_record.ensures c.if-not-is_record.true

pub is_active-requires : goal.is_active-requires
unfolding layout_of
is_active-requires c = c.requires.0

pub returns : goal.returns
unfolding layout_of
returns c = held_by _ _ _ c.is_record.ensures c.if-not-is_record.false c.is_active.ensures
