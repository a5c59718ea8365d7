-- `judge_links::of_call` meets its contract: the timestamps decide, then MU.
use mathlib.Core.Path.{sym, ap, ◌∙◌}
use native.Mathlib.Omega.{arith}
use Rattle.verdict.specs.Kind.{active, same_stamp, stamped_at}
use Rattle.judge_scan.proofs.Scan.{wide, row-long}
use Rattle.judge_links.proofs.Counting.{and-on, stamp-off}
use Rattle.judge_links.proofs.of_call.Goals as goal

pub row_at-y-requires : goal.row_at-y-requires
row_at-y-requires c = c.requires.1

pub same_stamp-requires : goal.same_stamp-requires
same_stamp-requires c =
    let g = wide c.args.table in
    let l = row-long _ _ _ _ c.row_at-y.ensures in (c.requires.0, omega arith)

pub returns-then-not-same_stamp : goal.returns-then-not-same_stamp
unfolding stamped_at
returns-then-not-same_stamp c = stamp-off (active _ _ _) _ _ (c.same_stamp.ensures ∙ ap (same_stamp _) c.row_at-y.ensures) c.if-not-same_stamp.true

pub is_active-requires : goal.is_active-requires
is_active-requires c = c.requires.1

pub returns : goal.returns
unfolding stamped_at
returns c = and-on _ _ _ c.is_active.ensures (sym (c.same_stamp.ensures ∙ ap (same_stamp _) c.row_at-y.ensures) ∙ c.if-not-same_stamp.false)
