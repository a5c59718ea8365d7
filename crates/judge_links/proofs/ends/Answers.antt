-- `judge_links::ends` meets its contract: the two slices are the two rows.
use mathlib.Core.Path.{refl}
use native.Mathlib.Nat.{le_refl}
use Rattle.judge_scan.specs.Tables.{layout_of}
use Rattle.judge_tuples.specs.Port.{table_of, width_of}
use Rattle.judge_tuples.specs.declared.Port.TheVariants.{CoreReceive, RoundSend}
use Rattle.judge_links.proofs.Even.{row-wide, linked}
use Rattle.judge_links.proofs.ends.Goals as goal

pub row_at-x-requires : goal.row_at-x-requires
unfolding layout_of
row_at-x-requires c = c.requires.1

pub row_at-y-requires : goal.row_at-y-requires
unfolding layout_of
row_at-y-requires c = c.requires.0

pub same_tuple-requires : goal.same_tuple-requires
unfolding width_of table_of layout_of
same_tuple-requires c =
    (row-wide RoundSend _ _ _ _ (le_refl _) c.row_at-x.ensures, row-wide CoreReceive _ _ _ _ (le_refl _) c.row_at-y.ensures)

pub returns : goal.returns
unfolding layout_of
returns c = linked RoundSend CoreReceive _ _ _ _ _ _ c.same_tuple.ensures c.row_at-x.ensures c.row_at-y.ensures refl
