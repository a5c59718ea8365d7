-- `judge::from_core_balance` meets its contract: a tuple is found, or none.
use mathlib.Core.Path.{sym, ◌∙◌}
use Rattle.verdict.specs.Verdict.{from_core_balance}
use Rattle.verdict.proofs.Stages.{passes, answers}
use Rattle.judge_scan.specs.Tables.{kind_of}
use Rattle.judge_scan.proofs.Scan.{spot-at, spot-nowhere}
use Rattle.judge_walk.proofs.Owing.{walked-even}
use Rattle.judge.proofs.from_core_balance.Goals as goal

pub first_unbalanced-requires : goal.first_unbalanced-requires
first_unbalanced-requires c = walked-even _ _ _ _ c.walk-walked.ensures

pub returns-in-Some : goal.returns-in-Some
unfolding from_core_balance kind_of
returns-in-Some c = sym (answers _ _ _ _ (spot-at _ (sym c.in-Some.is ∙ c.first_unbalanced.ensures)))

pub from_round_balance-requires : goal.from_round_balance-requires
from_round_balance-requires c = walked-even _ _ _ _ c.walk-walked.ensures

pub returns : goal.returns
unfolding from_core_balance kind_of
returns c = c.from_round_balance.ensures ∙ sym (passes _ _ _ (spot-nowhere _ (sym c.in_default.is ∙ c.first_unbalanced.ensures)))
