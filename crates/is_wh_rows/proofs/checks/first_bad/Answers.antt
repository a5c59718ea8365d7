use mathlib.Core.Path.{sym, ap}
use native.Mathlib.Omega.{arith}
use Rattle.lists.specs.First.{place_of}
use Rattle.lists.proofs.First.{first-start, at_more, at-hit}
use Rattle.is_wh_rows.proofs.Lists.{is-bad, not-bad}
use Rattle.is_wh_rows.proofs.checks.first_bad.Goals as goal

pub loop-k-init : goal.loop-k-init
loop-k-init c = (omega arith, first-start _)

pub returns-then-limit-list : goal.returns-then-limit-list
returns-then-limit-list c =
    sym (ap place_of (at-hit _ _ _ c.loop-k-test.true c.loop-k.invariant.1 (is-bad _ _ _ _ c.limit_of-limit.ensures c.if-limit-list.true)))

pub loop-k-preserved : goal.loop-k-preserved
loop-k-preserved c =
    (omega arith, at_more _ _ c.loop-k.invariant.1 (not-bad _ _ _ _ c.limit_of-limit.ensures c.if-limit-list.false))
