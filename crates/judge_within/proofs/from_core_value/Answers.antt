-- `judge_within::from_core_value` meets its contract, one stage after the other.
use mathlib.Core.Path.{sym, ◌∙◌}
use Rattle.lists.proofs.First.{place_at, place-nowhere}
use Rattle.verdict.specs.Verdict.{from_core_value, from_core_lookup, from_repeat}
use Rattle.verdict.proofs.Stages.{passes, answers}
use Rattle.judge_scan.specs.Tables.{kind_of}
use Rattle.judge_rows.specs.Checks.{first_failure}
use Rattle.judge_scan.proofs.Scan.{spot-at, spot-nowhere}
use Rattle.judge_within.proofs.from_core_value.Goals as goal

pub returns-in-Some : goal.returns-in-Some
unfolding from_core_value kind_of first_failure
returns-in-Some c = sym (answers _ _ _ _ (spot-at _ (sym c.in-Some.is ∙ c.first_failure.ensures _)))

pub returns-in-Some-first_failure : goal.returns-in-Some-first_failure
unfolding from_core_value from_core_lookup kind_of first_failure
returns-in-Some-first_failure c =
    sym (passes _ _ _ (spot-nowhere _ (sym c.in_default.is ∙ c.first_failure.ensures _))
    ∙ answers _ _ _ _ (spot-at _ (sym c.in-Some-first_failure.is ∙ c.first_failure-2.ensures _)))

pub returns-in-Some-first_repeat : goal.returns-in-Some-first_repeat
unfolding from_core_value from_core_lookup from_repeat kind_of first_failure
returns-in-Some-first_repeat c =
    sym (passes _ _ _ (spot-nowhere _ (sym c.in_default.is ∙ c.first_failure.ensures _))
    ∙ passes _ _ _ (spot-nowhere _ (sym c.in_default-first_failure.is ∙ c.first_failure-2.ensures _))
    ∙ answers _ _ _ _ (place_at _ (sym c.in-Some-first_repeat.is ∙ c.first_repeat.ensures)))

pub returns : goal.returns
unfolding from_core_value from_core_lookup from_repeat kind_of first_failure
returns c =
    c.from_round_value.ensures
    ∙ sym (passes _ _ _ (spot-nowhere _ (sym c.in_default.is ∙ c.first_failure.ensures _))
    ∙ passes _ _ _ (spot-nowhere _ (sym c.in_default-first_failure.is ∙ c.first_failure-2.ensures _))
    ∙ passes _ _ _ (place-nowhere _ (sym c.in_default-first_repeat.is ∙ c.first_repeat.ensures)))
