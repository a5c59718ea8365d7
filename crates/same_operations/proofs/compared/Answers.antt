-- `same_operations::compared` meets its contract: the first record alone; else as many rows, or the first row alone.
use mathlib.Core.Path.{sym, ◌∙◌}
use Rattle.lists.proofs.First.{place_at, place-nowhere}
use Rattle.judge_scan.specs.Tables.{layout_of}
use Rattle.same_operations.proofs.Agree.{told-record, told-row, told_same, told-all}
use Rattle.same_operations.proofs.compared.Goals as goal

pub pass-p-requires : goal.pass-p-requires
pass-p-requires c = c.requires

pub first_record-requires : goal.first_record-requires
first_record-requires c = (c.pass-p.ensures, c.requires.1)

pub returns-in-Some : goal.returns-in-Some
returns-in-Some c = told-record _ _ (place_at _ (sym c.in-Some.is ∙ c.first_record.ensures))

pub returns-then-active_rows-n : goal.returns-then-active_rows-n
unfolding layout_of
returns-then-active_rows-n c = told-all _ _ (place-nowhere _ (sym c.in_default.is ∙ c.first_record.ensures)) c.active_rows.ensures c.requires.1 c.if-active_rows-n.true

pub first_row-requires : goal.first_row-requires
first_row-requires c = (c.pass-p.ensures, c.requires.1)

pub returns-in-Some-first_row : goal.returns-in-Some-first_row
returns-in-Some-first_row c = told-row _ _ (place-nowhere _ (sym c.in_default.is ∙ c.first_record.ensures)) (place_at _ (sym c.in-Some-first_row.is ∙ c.first_row.ensures))

pub returns-in-None : goal.returns-in-None
returns-in-None c = told_same _ _ (place-nowhere _ (sym c.in_default.is ∙ c.first_record.ensures)) (place-nowhere _ (sym c.in-None.is ∙ c.first_row.ensures))
