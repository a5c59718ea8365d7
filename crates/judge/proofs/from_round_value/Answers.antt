-- `judge::from_round_value` meets its contract, one stage after the other.
use mathlib.Core.Path.{sym, ◌∙◌}
use Rattle.verdict.specs.Verdict.{from_round_value, from_round_lookup}
use Rattle.verdict.proofs.Stages.{passes, answers}
use Rattle.judge_scan.specs.Tables.{kind_of}
use Rattle.judge_rows.specs.Checks.{first_failure}
use Rattle.judge_scan.proofs.Scan.{spot-at, spot-nowhere}
use Rattle.judge.proofs.from_round_value.Goals as goal

pub first_failure-requires : goal.first_failure-requires
first_failure-requires c = c.requires

pub returns-in-Some : goal.returns-in-Some
unfolding from_round_value kind_of first_failure
returns-in-Some c = sym (answers _ _ _ _ (spot-at _ (sym c.in-Some.is ∙ c.first_failure.ensures 24)))

pub first_failure-requires-2 : goal.first_failure-requires-2
first_failure-requires-2 c = c.requires

pub returns-in-Some-first_failure : goal.returns-in-Some-first_failure
unfolding from_round_value from_round_lookup kind_of first_failure
returns-in-Some-first_failure c = sym (passes _ _ _ (spot-nowhere _ (sym c.in_default.is ∙ c.first_failure.ensures 24)) ∙ answers _ _ _ _ (spot-at _ (sym c.in-Some-first_failure.is ∙ c.first_failure-2.ensures 24)))

pub returns : goal.returns
unfolding from_round_value from_round_lookup kind_of first_failure
returns c = c.from_core_balance.ensures ∙ sym (passes _ _ _ (spot-nowhere _ (sym c.in_default.is ∙ c.first_failure.ensures 24)) ∙ passes _ _ _ (spot-nowhere _ (sym c.in_default-first_failure.is ∙ c.first_failure-2.ensures 24)))
