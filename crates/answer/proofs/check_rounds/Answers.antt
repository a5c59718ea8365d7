-- `answer::check_rounds` meets its contract: one check after the other.
use mathlib.Core.Path.{refl}
use borrow.Author.Tests.{eq-eqb, ne_eqb, lt-ltb, le-ltb}
use Rattle.answer.proofs.Laws.{refuse-yes, refuse-no, answers, accepts}
use Rattle.answer.proofs.check_rounds.Goals as goal

pub returns-then-nr-eq0 : goal.returns-then-nr-eq0
returns-then-nr-eq0 c = answers (refuse-yes _ _ (eq-eqb _ _ c.if-nr-eq0.true))

pub returns-then-nr-gt-MAX_ROUNDS : goal.returns-then-nr-gt-MAX_ROUNDS
returns-then-nr-gt-MAX_ROUNDS c = answers (refuse-no _ (ne_eqb _ _ c.if-nr-eq0.false) (refuse-yes _ _ (lt-ltb _ _ c.if-nr-gt-MAX_ROUNDS.true)))

pub returns : goal.returns
returns c = accepts (refuse-no _ (ne_eqb _ _ c.if-nr-eq0.false) (refuse-no _ (le-ltb _ _ c.if-nr-gt-MAX_ROUNDS.false) refl))
