-- `judge::checks::check_words` meets its contract: one table, then the other.
use mathlib.Core.Path.{refl, sym, ◌∙◌}
use Rattle.lists.proofs.First.{place_at, place-nowhere}
use Rattle.answer.specs.declared.Refusal.TheVariants.{NotElement}
use Rattle.answer.proofs.Laws.{at-yes, at-no, answers, accepts}
use Rattle.judge.proofs.checks.check_words.Goals as goal

pub returns-in-Some : goal.returns-in-Some
returns-in-Some c = answers (at-yes NotElement _ (place_at _ (sym c.in-Some.is ∙ c.first_not_element.ensures)))

pub returns-in-Some-first_not_element : goal.returns-in-Some-first_not_element
returns-in-Some-first_not_element c =
    answers
    (at-no NotElement (place-nowhere _ (sym c.in_default.is ∙ c.first_not_element.ensures))
    (at-yes NotElement _ (place_at _ (sym c.in-Some-first_not_element.is ∙ c.first_not_element-2.ensures))))

pub returns : goal.returns
returns c =
    accepts
    (at-no NotElement (place-nowhere _ (sym c.in_default.is ∙ c.first_not_element.ensures))
    (at-no NotElement (place-nowhere _ (sym c.in_default-first_not_element.is ∙ c.first_not_element-2.ensures)) refl))
