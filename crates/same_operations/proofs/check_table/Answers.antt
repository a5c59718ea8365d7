-- `same_operations::check_table` meets its contract: whole rows, then words below p.
use mathlib.Core.Path.{refl, sym, ◌∙◌}
use Rattle.lists.proofs.First.{place_at, place-nowhere}
use Rattle.answer.specs.declared.Refusal.TheVariants.{NotElement}
use Rattle.answer.proofs.Laws.{refuse-yes, refuse-no, at-yes, at-no, answers, accepts}
use Rattle.verdict.specs.CoreAndRound.{core_layout}
use Rattle.verdict.proofs.Stages.{whole-separates}
use Rattle.same_operations.proofs.check_table.Goals as goal

pub returns-then-core-ne0 : goal.returns-then-core-ne0
returns-then-core-ne0 c = answers (refuse-yes _ _ ((whole-separates core_layout _).is_true c.if-core-ne0.true))

pub returns-in-Some : goal.returns-in-Some
returns-in-Some c = answers (refuse-no _ ((whole-separates core_layout _).is_false c.if-core-ne0.false) (at-yes NotElement _ (place_at _ (sym c.in-Some.is ∙ c.first_not_element.ensures))))

pub returns : goal.returns
returns c = accepts (refuse-no _ ((whole-separates core_layout _).is_false c.if-core-ne0.false) (at-no NotElement (place-nowhere _ (sym c.in_default.is ∙ c.first_not_element.ensures)) refl))
