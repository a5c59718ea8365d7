-- `month::check_month` meets its contract: each check refuses, or the later ones decide (Refusals.antt).
use mathlib.Core.Path.{sym, ◌∙◌}
use Rattle.answer.proofs.Laws.{answers, accepts, handed-on}
use Rattle.answer.proofs.Refusals.{both-stop, both-go-on, room-accepted}
use Rattle.month.specs.Month.{month_refusal}
use Rattle.month.proofs.Refusals.{month-files, month-any, month-none, month-short}
use Rattle.month.proofs.check_month.Goals as goal

pub returns-in_err-check_rounds_and_floor : goal.returns-in_err-check_rounds_and_floor
unfolding month_refusal
returns-in_err-check_rounds_and_floor c =
    handed-on _ c.from_residual.ensures.1 ∙ answers (both-stop _ _ c.check_rounds_and_floor.ensures _ c.in_err-check_rounds_and_floor.was)

pub returns-then-counts-gt-MAX_FILES : goal.returns-then-counts-gt-MAX_FILES
returns-then-counts-gt-MAX_FILES c =
    let both = both-go-on _ _ c.check_rounds_and_floor.ensures c.in_ok-check_rounds_and_floor.was in
    answers (month-files _ _ _ _ both c.if-counts-gt-MAX_FILES.true)

pub returns-then-any_past : goal.returns-then-any_past
returns-then-any_past c =
    let both = both-go-on _ _ c.check_rounds_and_floor.ensures c.in_ok-check_rounds_and_floor.was in
    answers (month-any _ _ _ _ both c.if-counts-gt-MAX_FILES.false (sym c.any_past.ensures ∙ c.if-any_past.true))

pub returns-then-room-lt-MONTH_WORDS : goal.returns-then-room-lt-MONTH_WORDS
returns-then-room-lt-MONTH_WORDS c =
    let both = both-go-on _ _ c.check_rounds_and_floor.ensures c.in_ok-check_rounds_and_floor.was in
    let rest = month-none _ _ _ _ both c.if-counts-gt-MAX_FILES.false (sym c.any_past.ensures ∙ c.if-any_past.false) in
    answers (month-short _ _ _ _ rest c.if-room-lt-MONTH_WORDS.true)

pub returns : goal.returns
returns c =
    let both = both-go-on _ _ c.check_rounds_and_floor.ensures c.in_ok-check_rounds_and_floor.was in
    let rest = month-none _ _ _ _ both c.if-counts-gt-MAX_FILES.false (sym c.any_past.ensures ∙ c.if-any_past.false) in
    accepts (rest ∙ (room-accepted _ _).1 c.if-room-lt-MONTH_WORDS.false)
