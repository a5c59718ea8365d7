-- `read_file`: a floor that passed the check is one.
use Rattle.std.proofs.Common.{ℕ, true, false, ◌≡◌, [], sym, ap, ◌∙◌, arith}
use mathlib.Core.Bool.{not}
use Rattle.answer.specs.declared.Refusal.{Refusal}
use Rattle.answer.specs.declared.Refusal.TheVariants.{Floor}
use Rattle.answer.specs.Refusal.{accepted, answer_of, is_floor, not_floor}
use Rattle.answer.proofs.Laws.{answers, refuse-yes}
use Rattle.op_file.specs.Reader.{feed_of}
use Rattle.tally.proofs.read_file.Goals as goal
use Rattle.std.specs.Prelude.{Result, is_err, ⊤}

refused : (floor : ℕ) {a : Result ⊤ Refusal} → a ≡ answer_of (not_floor floor accepted) → is_floor floor ≡ false → is_err a ≡ true
refused floor e other = ap is_err (e ∙ sym (answers (refuse-yes (Floor floor) accepted (ap not other))))

pub returns-then-is_err-clause-fed : goal.returns-then-is_err-clause-fed
unfolding feed_of
returns-then-is_err-clause-fed g c = ([], c.start.ensures, λ l. absurd (omega arith))

pub returns-clause-floor_refused : goal.returns-clause-floor_refused
returns-clause-floor_refused g c =
    λ other. let both = sym (refused _ c.check_floor.ensures other) ∙ sym c.is_err.ensures.value ∙ c.if-is_err.false in cc
