-- `segment_counts::beforehand::larger_of` meets its contract.
use mathlib.Core.Bool.{Bool}
use mathlib.Core.Path.{sym, ap}
use borrow.Author.Tests.{lt-ltb, le-ltb}
use Rattle.lists.specs.Tab.{pick}
use Rattle.segment_counts.specs.Kinds.{larger}
use Rattle.segment_counts.proofs.beforehand.larger_of.Goals as goal

pub returns-then-a-b : goal.returns-then-a-b
unfolding larger
returns-then-a-b c = sym (ap (λ (t : Bool). pick t c.args.b c.args.a) (lt-ltb _ _ c.if-a-b.true))

pub returns : goal.returns
unfolding larger
returns c = sym (ap (λ (t : Bool). pick t c.args.b c.args.a) (le-ltb _ _ c.if-a-b.false))
