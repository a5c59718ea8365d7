-- `judge_within::checks::check_room` meets its contract: one slice after the other.
use native.Mathlib.Omega.{arith}
use mathlib.Core.Path.{refl}
use borrow.Author.Tests.{lt-ltb, le-ltb}
use Rattle.answer.proofs.Laws.{refuse-yes, refuse-no, answers, accepts}
use Rattle.judge_within.proofs.checks.check_room.Goals as goal

pub returns-then-scratch-n : goal.returns-then-scratch-n
returns-then-scratch-n c = answers (refuse-yes _ _ (lt-ltb _ _ c.if-scratch-n.true))

pub returns : goal.returns
returns c = accepts (refuse-no _ (le-ltb _ _ c.if-scratch-n.false) (refuse-no _ (le-ltb c.args.spare c.args.n (omega arith)) refl))

pub returns-then-spare-n : goal.returns-then-spare-n
returns-then-spare-n c = answers (refuse-no _ (le-ltb _ _ c.if-scratch-n.false) (refuse-yes _ _ (lt-ltb c.args.spare c.args.n (omega arith))))
