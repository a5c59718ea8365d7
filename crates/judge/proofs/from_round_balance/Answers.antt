-- `judge::from_round_balance` meets its contract: a tuple is found, or none.
use mathlib.Core.Path.{sym, ap, ◌∙◌}
use Rattle.verdict.specs.Verdict.{from_round_balance}
use Rattle.verdict.specs.declared.Verdict.TheVariants.{Holds}
use Rattle.verdict.proofs.Stages.{passes, answers}
use Rattle.judge_scan.specs.Tables.{kind_of, layout_of}
use Rattle.judge_scan.proofs.Scan.{spot-at, spot-nowhere}
use Rattle.judge.proofs.from_round_balance.Goals as goal

pub returns-in-Some : goal.returns-in-Some
unfolding from_round_balance kind_of layout_of
returns-in-Some c = sym (answers _ _ _ _ (spot-at _ (sym c.in-Some.is ∙ c.first_unbalanced.ensures)))

pub returns : goal.returns
unfolding from_round_balance kind_of layout_of
returns c = ap Holds c.active_rows.ensures ∙ sym (passes _ _ _ (spot-nowhere _ (sym c.in_default.is ∙ c.first_unbalanced.ensures)))
