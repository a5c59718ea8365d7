-- `job::checks::check_counts` meets its contract, one check after the other.
use mathlib.Core.Path.{sym, ◌∙◌}
use Rattle.answer.proofs.Laws.{handed-on, is-refused, is-done, answers, accepts}
use Rattle.answer.proofs.Refusals.{rounds-accepted}
use Rattle.judge.proofs.Passed.{rows-passed}
use Rattle.job.proofs.Refusals.{rounds-refused, rows-refused, counts-refused, room-refused, later-decide}
use Rattle.job.proofs.checks.check_counts.Goals as goal

pub returns-in_err-check_rounds : goal.returns-in_err-check_rounds
returns-in_err-check_rounds c =
    handed-on _ c.from_residual.ensures.1
    ∙ answers (rounds-refused _ _ _ _ _ _ (is-refused _ (sym c.in_err-check_rounds.was ∙ c.check_rounds.ensures)))

pub returns-in_err-check_rows : goal.returns-in_err-check_rows
returns-in_err-check_rows c =
    let r = (rounds-accepted _).0 (is-done _ (sym c.in_ok-check_rounds.was ∙ c.check_rounds.ensures)) in
    handed-on _ c.from_residual-in_err-check_rows.ensures.1
    ∙ answers (rows-refused _ _ _ _ _ _ r (is-refused _ (sym c.in_err-check_rows.was ∙ c.check_rows.ensures)))

pub returns-then-not-are_split : goal.returns-then-not-are_split
returns-then-not-are_split c =
    let r = (rounds-accepted _).0 (is-done _ (sym c.in_ok-check_rounds.was ∙ c.check_rounds.ensures)) in
    let w = rows-passed _ _ _ (is-done _ (sym c.in_ok-check_rows.was ∙ c.check_rows.ensures)) in
    answers (counts-refused _ _ _ _ _ _ r (w.0, w.1) (sym c.are_split.ensures ∙ c.if-not-are_split.true))

pub returns-then-room-needed : goal.returns-then-room-needed
returns-then-room-needed c =
    let r = (rounds-accepted _).0 (is-done _ (sym c.in_ok-check_rounds.was ∙ c.check_rounds.ensures)) in
    let w = rows-passed _ _ _ (is-done _ (sym c.in_ok-check_rows.was ∙ c.check_rows.ensures)) in
    answers (room-refused _ _ _ _ _ _ r (w.0, w.1) (sym c.are_split.ensures ∙ c.if-not-are_split.false) c.if-room-needed.true)

pub returns : goal.returns
returns c =
    let r = (rounds-accepted _).0 (is-done _ (sym c.in_ok-check_rounds.was ∙ c.check_rounds.ensures)) in
    let w = rows-passed _ _ _ (is-done _ (sym c.in_ok-check_rows.was ∙ c.check_rows.ensures)) in
    accepts (later-decide _ _ _ _ _ _ r (w.0, w.1) (sym c.are_split.ensures ∙ c.if-not-are_split.false) c.if-room-needed.false)
