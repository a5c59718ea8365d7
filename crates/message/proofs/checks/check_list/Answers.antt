-- `check_list` meets its contract: one check after the other.
use mathlib.Core.Path.{refl, sym, ap, ◌∙◌}
use borrow.Author.Tests.{lt-ltb, le-ltb}
use Rattle.answer.specs.Refusal.{refuse_if, answer_of}
use Rattle.answer.proofs.Laws.{refuse-yes, refuse-no, answers}
use Rattle.message.specs.Message.{judged_refusal}
use Rattle.message.proofs.checks.check_list.Goals as goal

pub returns-then-ops-gt-MAX_OPS : goal.returns-then-ops-gt-MAX_OPS
unfolding judged_refusal
returns-then-ops-gt-MAX_OPS c = answers (refuse-yes _ _ (lt-ltb _ _ c.if-ops-gt-MAX_OPS.true))

pub returns-then-n-gt-MAX_MESSAGE : goal.returns-then-n-gt-MAX_MESSAGE
unfolding judged_refusal
returns-then-n-gt-MAX_MESSAGE c = answers (refuse-no _ (le-ltb _ _ c.if-ops-gt-MAX_OPS.false) (refuse-yes _ _ (lt-ltb _ _ c.if-n-gt-MAX_MESSAGE.true)))

pub returns : goal.returns
unfolding judged_refusal refuse_if
returns c = c.check_operations.ensures ∙ ap answer_of (sym (refuse-no _ (le-ltb _ _ c.if-ops-gt-MAX_OPS.false) (refuse-no _ (le-ltb _ _ c.if-n-gt-MAX_MESSAGE.false) refl)))
