-- `judge_within::checks::check_within` meets its contract: one check after the other (Within.antt).
use mathlib.Core.Path.{sym, ap, ◌∙◌}
use Rattle.answer.specs.Refusal.{answer_of}
use Rattle.answer.proofs.Laws.{is-refused, is-done, answers, handed-on}
use Rattle.judge_within.proofs.Within.{rounds-first, rows_next, room_next, words_last}
use Rattle.judge_within.proofs.checks.check_within.Goals as goal

pub returns-in_err-check_rounds : goal.returns-in_err-check_rounds
returns-in_err-check_rounds c =
    handed-on _ c.from_residual.ensures.1 ∙ answers (rounds-first _ _ _ _ _ (is-refused _ (sym c.in_err-check_rounds.was ∙ c.check_rounds.ensures)))

pub returns-in_err-check_rows : goal.returns-in_err-check_rows
returns-in_err-check_rows c =
    let a = is-done _ (sym c.in_ok-check_rounds.was ∙ c.check_rounds.ensures) in
    handed-on _ c.from_residual-in_err-check_rows.ensures.1
    ∙ answers (rows_next _ _ _ _ _ a (is-refused _ (sym c.in_err-check_rows.was ∙ c.check_rows.ensures)))

pub returns-in_err-check_room : goal.returns-in_err-check_room
returns-in_err-check_room c =
    let a = is-done _ (sym c.in_ok-check_rounds.was ∙ c.check_rounds.ensures) in
    let b = is-done _ (sym c.in_ok-check_rows.was ∙ c.check_rows.ensures) in
    handed-on _ c.from_residual-in_err-check_room.ensures.1
    ∙ answers (room_next _ _ _ _ _ a b _ c.place_count.ensures (is-refused _ (sym c.in_err-check_room.was ∙ c.check_room.ensures)))

pub returns : goal.returns
returns c =
    let a = is-done _ (sym c.in_ok-check_rounds.was ∙ c.check_rounds.ensures) in
    let b = is-done _ (sym c.in_ok-check_rows.was ∙ c.check_rows.ensures) in
    c.check_words.ensures
    ∙ ap answer_of (words_last _ _ _ _ _ a b _ c.place_count.ensures (is-done _ (sym c.in_ok-check_room.was ∙ c.check_room.ensures)))
