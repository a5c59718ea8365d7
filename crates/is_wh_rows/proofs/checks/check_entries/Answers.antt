-- `check_entries` meets its contract: one check after the other.
use mathlib.Core.Path.{refl, ap}
use mathlib.Core.Bool.{not}
use borrow.Author.Tests.{le-leb, lt-leb, eq-eqb, ne_eqb}
use Rattle.answer.proofs.Laws.{refuse-yes, refuse-no, answers, accepts}
use Rattle.is_wh_rows.proofs.Lists.{most-lt}
use Rattle.is_wh_rows.proofs.checks.check_entries.Goals as goal

pub returns-then-list-size-gt-MAX_KEYS : goal.returns-then-list-size-gt-MAX_KEYS
returns-then-list-size-gt-MAX_KEYS c = answers (refuse-yes _ _ (le-leb _ _ c.if-list-size-gt-MAX_KEYS.true))

pub returns-then-list-size-ne0 : goal.returns-then-list-size-ne0
returns-then-list-size-ne0 c = answers (refuse-no _ (lt-leb _ _ (most-lt c.if-list-size-gt-MAX_KEYS.false)) (refuse-yes _ _ (ap not (ne_eqb _ _ c.if-list-size-ne0.true))))

pub returns : goal.returns
returns c = accepts (refuse-no _ (lt-leb _ _ (most-lt c.if-list-size-gt-MAX_KEYS.false)) (refuse-no _ (ap not (eq-eqb _ _ c.if-list-size-ne0.false)) refl))
