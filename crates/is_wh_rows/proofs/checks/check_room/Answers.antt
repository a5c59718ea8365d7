-- `check_room` meets its contract: one slice after the other.
use mathlib.Core.Path.{refl}
use borrow.Author.Tests.{lt-ltb, le-ltb}
use Rattle.answer.proofs.Laws.{refuse-yes, refuse-no, answers, accepts}
use Rattle.is_wh_rows.proofs.checks.check_room.Goals as goal

pub returns-then-codes-n : goal.returns-then-codes-n
returns-then-codes-n c = answers (refuse-yes _ _ (lt-ltb _ _ c.if-codes-n.true))

pub returns-then-spare-n : goal.returns-then-spare-n
returns-then-spare-n c = answers (refuse-no _ (le-ltb _ _ c.if-codes-n.false) (refuse-yes _ _ (lt-ltb _ _ c.if-spare-n.true)))

pub returns-then-rows-n : goal.returns-then-rows-n
returns-then-rows-n c =
    answers (refuse-no _ (le-ltb _ _ c.if-codes-n.false) (refuse-no _ (le-ltb _ _ c.if-spare-n.false) (refuse-yes _ _ (lt-ltb _ _ c.if-rows-n.true))))

pub returns : goal.returns
returns c =
    accepts (refuse-no _ (le-ltb _ _ c.if-codes-n.false) (refuse-no _ (le-ltb _ _ c.if-spare-n.false) (refuse-no _ (le-ltb _ _ c.if-rows-n.false) refl)))
