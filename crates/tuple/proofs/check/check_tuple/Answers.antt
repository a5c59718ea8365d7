-- `tuple::check::check_tuple` meets its contract: the index, then the row's checks.
use mathlib.Core.Path.{refl, sym, ap, ◌∙◌}
use borrow.Author.Tests.{le-leb, lt-leb}
use Rattle.answer.specs.Refusal.{answer_of}
use Rattle.answer.proofs.Laws.{refuse-yes, refuse-no, answers}
use Rattle.tuple.specs.Call.{sized_refusal}
use Rattle.tuple.proofs.check.check_tuple.Goals as goal

pub returns-then-index-count : goal.returns-then-index-count
unfolding sized_refusal
returns-then-index-count c = answers (refuse-yes _ _ (le-leb _ _ c.if-index-count.true))

pub returns : goal.returns
unfolding sized_refusal
returns c = c.check_values.ensures ∙ ap answer_of (sym (refuse-no _ (lt-leb _ _ c.if-index-count.false) refl))
