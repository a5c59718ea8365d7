-- `check_rows` meets its contract: one check after the other.
use mathlib.Core.Path.{◌≡◌, refl, sym, ◌∙◌}
use mathlib.Core.List.{List}
use Prim.Native.Nat.{ℕ, ◌/◌, ◌%◌, ◌≤◌}
use lib.ListN.{length}
use Rattle.lists.proofs.First.{place_at, place-nowhere}
use Rattle.answer.specs.Refusal.{accepted, answer_of}
use Rattle.answer.specs.declared.Refusal.{Refusal}
use Rattle.answer.proofs.Laws.{is-refused, is-done, answers, accepts, handed-on}
use Rattle.std.specs.Prelude.{Result, Ok, ⊤}
use Rattle.is_wh_rows.specs.Lists.{MAX-KEYS, too_many_in, ragged_in}
use Rattle.is_wh_rows.proofs.Lists.{entries-passed, rows-entries, rows_short, rows-bad, rows_pass}
use Rattle.is_wh_rows.proofs.checks.check_rows.Goals as goal

-- how many rows, and that they are whole
entries : (rows : List ℕ) {a : Result ⊤ Refusal} → a ≡ Ok tt → a ≡ answer_of (too_many_in 3 rows (ragged_in 3 rows accepted))
    → (length rows / 3 ≤ MAX-KEYS) × (length rows % 3 ≡ 0) × (accepted ≡ accepted)
entries rows w e = entries-passed 3 rows accepted (is-done _ (sym w ∙ e))

pub returns-in_err-check_entries : goal.returns-in_err-check_entries
returns-in_err-check_entries c =
    handed-on _ c.from_residual.ensures.1 ∙ answers (rows-entries _ _ _ _ (is-refused _ (sym c.in_err-check_entries.was ∙ c.check_entries.ensures)))

pub returns-then-room-needed : goal.returns-then-room-needed
returns-then-room-needed c =
    let a = entries c.args.rows.now c.in_ok-check_entries.was c.check_entries.ensures in
    answers (rows_short _ _ _ a.0 a.1 _ c.if-room-needed.true)

pub returns-in-Some : goal.returns-in-Some
returns-in-Some c =
    let a = entries c.args.rows.now c.in_ok-check_entries.was c.check_entries.ensures in
    answers (rows-bad _ _ _ a.0 a.1 c.if-room-needed.false _ _ (place_at _ (sym c.in-Some.is ∙ c.first_bad.ensures)))

pub returns : goal.returns
returns c =
    let a = entries c.args.rows.now c.in_ok-check_entries.was c.check_entries.ensures in
    accepts (rows_pass _ _ _ a.0 a.1 c.if-room-needed.false (place-nowhere _ (sym c.in_default.is ∙ c.first_bad.ensures)) refl)
