-- `judge_within::walks::same_stamps` meets its contract.
use mathlib.Core.Path.{◌∙◌}
use native.Mathlib.Omega.{arith}
use Rattle.verdict.specs.Kind.{same_stamp}
use Rattle.judge_scan.specs.Tables.{layout_of}
use Rattle.judge_scan.proofs.Scan.{row-long}
use Rattle.judge_within.proofs.walks.same_stamps.Goals as goal

pub row_at-x-requires : goal.row_at-x-requires
unfolding layout_of
row_at-x-requires c = c.requires.0

pub row_at-y-requires : goal.row_at-y-requires
unfolding layout_of
row_at-y-requires c = c.requires.1

pub same_stamp-requires : goal.same_stamp-requires
unfolding layout_of
same_stamp-requires c =
    let h = row-long _ _ _ _ c.row_at-x.ensures in
    let g = row-long _ _ _ _ c.row_at-y.ensures in
    (omega arith, omega arith)

pub returns : goal.returns
unfolding layout_of
returns c = c.same_stamp.ensures ∙ (λ i. same_stamp (c.row_at-x.ensures i) (c.row_at-y.ensures i))
