-- `check_keys` meets its contract: one check after the other.
use mathlib.Core.Path.{◌≡◌, sym, ◌∙◌}
use mathlib.Core.List.{List}
use Prim.Native.Nat.{ℕ, ◌/◌, ◌%◌, ◌≤◌}
use lib.ListN.{length}
use Rattle.lists.proofs.First.{place_at, place-nowhere}
use Rattle.answer.specs.Refusal.{accepted, answer_of}
use Rattle.answer.specs.declared.Refusal.{Refusal}
use Rattle.answer.proofs.Laws.{is-refused, is-done, answers, accepts, handed-on}
use Rattle.std.specs.Prelude.{Result, Ok, ⊤}
use Rattle.is_wh_rows.specs.Lists.{MAX-KEYS, too_many_in, ragged_in}
use Rattle.is_wh_rows.proofs.Lists.{entries-passed}
use Rattle.is_wh_rows.proofs.Refusals.{dedup-entries, dedup-room, key-bad, keys-pass}
use Rattle.is_wh_rows.proofs.checks.check_keys.Goals as goal

-- how many keys, and that they are whole
entries : (keys : List ℕ) {a : Result ⊤ Refusal} → a ≡ Ok tt → a ≡ answer_of (too_many_in 2 keys (ragged_in 2 keys accepted))
    → (length keys / 2 ≤ MAX-KEYS) × (length keys % 2 ≡ 0) × (accepted ≡ accepted)
entries keys w e = entries-passed 2 keys accepted (is-done _ (sym w ∙ e))

pub returns-in_err-check_entries : goal.returns-in_err-check_entries
returns-in_err-check_entries c =
    handed-on _ c.from_residual.ensures.1 ∙ answers (dedup-entries _ _ _ _ (is-refused _ (sym c.in_err-check_entries.was ∙ c.check_entries.ensures)))

pub check_room-requires : goal.check_room-requires
check_room-requires c = (entries c.args.keys.now c.in_ok-check_entries.was c.check_entries.ensures).0

pub returns-in_err-check_room : goal.returns-in_err-check_room
returns-in_err-check_room c =
    let a = entries c.args.keys.now c.in_ok-check_entries.was c.check_entries.ensures in
    handed-on _ c.from_residual-in_err-check_room.ensures.1
    ∙ answers (dedup-room _ _ _ _ a.0 a.1 (is-refused _ (sym c.in_err-check_room.was ∙ c.check_room.ensures)))

pub returns-in-Some : goal.returns-in-Some
returns-in-Some c =
    let a = entries c.args.keys.now c.in_ok-check_entries.was c.check_entries.ensures in
    answers
    (key-bad _ _ _ _ a.0 a.1 (is-done _ (sym c.in_ok-check_room.was ∙ c.check_room.ensures)) _
    (place_at _ (sym c.in-Some.is ∙ c.first_bad.ensures)))

pub returns : goal.returns
returns c =
    let a = entries c.args.keys.now c.in_ok-check_entries.was c.check_entries.ensures in
    accepts
    (keys-pass _ _ _ _ a.0 a.1 (is-done _ (sym c.in_ok-check_room.was ∙ c.check_room.ensures))
    (place-nowhere _ (sym c.in_default.is ∙ c.first_bad.ensures)))
