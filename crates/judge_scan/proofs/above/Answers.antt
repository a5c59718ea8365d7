-- `judge_scan::above` meets its contract: the high words decide, then the low ones.
use native.Mathlib.Omega.{arith}
use borrow.Author.Tests.{not-true, not-false}
use Rattle.judge_scan.proofs.Stamps.{above-none, above-high, above_low}
use Rattle.judge_scan.proofs.above.Goals as goal

pub returns-then-not-top : goal.returns-then-not-top
returns-then-not-top c = above-none _ _ _ (not-true _ c.if-not-top.true)

pub returns-then-high-top : goal.returns-then-high-top
returns-then-high-top c = above-high _ _ _ (not-false _ c.if-not-top.false) (omega arith) (omega arith) c.if-high-top.true

pub returns : goal.returns
returns c = above_low _ _ _ (not-false _ c.if-not-top.false) c.if-high-top.false
