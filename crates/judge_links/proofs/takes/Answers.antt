-- `judge_links::takes` meets its contract, arm by arm.
use mathlib.Core.Path.{ap}
use native.Mathlib.Nat.{le_refl}
use Rattle.judge_scan.specs.Tables.{layout_of}
use Rattle.judge_tuples.specs.Port.{table_of, width_of}
use Rattle.judge_tuples.specs.declared.Port.TheVariants.{CoreSend, RoundReceive, RoundSend}
use Rattle.judge_links.specs.Even.{owed_by}
use Rattle.judge_links.proofs.Even.{row-wide, linked, started-in}
use Rattle.judge_links.proofs.takes.Goals as goal

pub row_at-y-requires : goal.row_at-y-requires
unfolding layout_of
row_at-y-requires c = c.requires.1

pub row_at-x-requires : goal.row_at-x-requires
unfolding layout_of
row_at-x-requires c = c.requires.0

pub same_tuple-requires : goal.same_tuple-requires
unfolding width_of table_of layout_of
same_tuple-requires c =
    (row-wide (CoreSend c.args.nr) _ _ _ _ (le_refl _) c.row_at-x.ensures, row-wide RoundReceive _ _ _ _ (le_refl _) c.row_at-y.ensures)

pub row_at-x-requires-in-Some : goal.row_at-x-requires-in-Some
unfolding layout_of
row_at-x-requires-in-Some c = started-in _ _ _ c.in-Some.is c.requires.2

pub same_tuple-requires-in-Some : goal.same_tuple-requires-in-Some
unfolding width_of table_of layout_of
same_tuple-requires-in-Some c =
    (row-wide RoundSend _ _ _ _ (le_refl _) c.row_at-x-in-Some.ensures, row-wide RoundReceive _ _ _ _ (le_refl _) c.row_at-y.ensures)

pub returns-in-None : goal.returns-in-None
unfolding owed_by layout_of
returns-in-None c = linked (CoreSend _) RoundReceive _ _ _ _ _ _ c.same_tuple.ensures c.row_at-x.ensures c.row_at-y.ensures (ap (owed_by _ _ _ _) c.in-None.is)

pub returns-in-Some : goal.returns-in-Some
unfolding owed_by layout_of
returns-in-Some c = linked RoundSend RoundReceive _ _ _ _ _ _ c.same_tuple-in-Some.ensures c.row_at-x-in-Some.ensures c.row_at-y.ensures (ap (owed_by _ _ _ _) c.in-Some.is)
