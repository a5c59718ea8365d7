-- `judge::judged` meets its contract: whole rows, then field elements, then the stages on rows.
use mathlib.Core.Path.{sym, ◌∙◌}
use Rattle.answer.proofs.Laws.{is-refused, is-done}
use Rattle.verdict.proofs.Stages.{answers}
use Rattle.judge.proofs.Passed.{rows-still, rows-passed, rows-later, words-passed, verdict-checked, verdict-passed}
use Rattle.judge.proofs.judged.Goals as goal

pub returns-in-Err : goal.returns-in-Err
returns-in-Err c = sym (verdict-checked _ _ _ ∙ answers _ _ _ _ (rows-still _ _ _ (is-refused _ (sym c.in-Err.is ∙ c.check_rows.ensures))))

pub returns-in-Err-check_words : goal.returns-in-Err-check_words
returns-in-Err-check_words c =
    let w = rows-passed _ _ _ (is-done _ (sym c.in_default.is ∙ c.check_rows.ensures)) in
    sym (verdict-checked _ _ _ ∙ answers _ _ _ _ (rows-later _ _ _ w.0 w.1 ∙ is-refused _ (sym c.in-Err-check_words.is ∙ c.check_words.ensures)))

pub from_core_value-requires : goal.from_core_value-requires
from_core_value-requires c = let e = words-passed _ _ _ (is-done _ (sym c.in_default-check_words.is ∙ c.check_words.ensures)) in (e.0, e.1)

pub returns : goal.returns
returns c =
    let w = rows-passed _ _ _ (is-done _ (sym c.in_default.is ∙ c.check_rows.ensures)) in
    let e = words-passed _ _ _ (is-done _ (sym c.in_default-check_words.is ∙ c.check_words.ensures)) in
    c.from_core_value.ensures ∙ sym (verdict-passed _ _ _ w.0 w.1 e.0 e.1)
