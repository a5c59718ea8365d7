-- `check_address` meets its contract: one check after the other.
use mathlib.Core.Path.{refl, ap}
use mathlib.Core.Bool.{not}
use borrow.Author.Tests.{lt-ltb, le-ltb, eq-eqb, ne_eqb}
use Rattle.answer.proofs.Laws.{refuse-yes, refuse-no, answers, accepts}
use Rattle.message.proofs.checks.check_address.Goals as goal

pub returns-then-address-gt-LAST_ADDRESS : goal.returns-then-address-gt-LAST_ADDRESS
returns-then-address-gt-LAST_ADDRESS c = answers (refuse-yes _ _ (lt-ltb _ _ c.if-address-gt-LAST_ADDRESS.true))

pub returns-then-address-ne0 : goal.returns-then-address-ne0
returns-then-address-ne0 c = answers (refuse-no _ (le-ltb _ _ c.if-address-gt-LAST_ADDRESS.false) (refuse-yes _ _ (ap not (ne_eqb _ _ c.if-address-ne0.true))))

pub returns : goal.returns
returns c = accepts (refuse-no _ (le-ltb _ _ c.if-address-gt-LAST_ADDRESS.false) (refuse-no _ (ap not (eq-eqb _ _ c.if-address-ne0.false)) refl))
