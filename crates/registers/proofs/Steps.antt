-- What one call of a history does.
--     added_by           what a charge adds to a counter
--     step-refused      a refused call leaves the state
--     step-elements, step-counters, plain-ledgers, through-ledgers   an accepted one finds field elements in the counters, and leaves these
use mathlib.Core.Option.{none, some}
use mathlib.Core.Path.{◌≡◌, refl, sym}
use Prim.Native.Nat.{ℕ, ◌<◌}
use lib.ListN.{length}
use Rattle.field.specs.Elements.{ElementRow}
use Rattle.answer.specs.declared.Refusal.{Refusal}
use Rattle.answer.proofs.Laws.{kept}
use Rattle.answer.proofs.Overwrite.{left}
use Rattle.bitwise.specs.Columns.{NUM-COUNTERS}
use Rattle.bitwise.specs.Charge.{charged_counters}
use Rattle.segment_counts.specs.Segment.{list_charged}
use Rattle.segment_counts.proofs.Accepted.{charge-accepted}
use Rattle.registers.specs.Registers.{in_use, charged_ledgers}
use Rattle.registers.specs.History.{Charge, Call, plain, through, State, charge_of, refusal_of, step_after}
use Rattle.registers.proofs.Accepted.{through-charged, through-used}

abbrev pub added_by : Charge → ℕ → ℕ
added_by x = list_charged x.nr x.floor x.shipped x.ops

-- ---- a call
pub step-refused : (s : State) (x : Call) {r : Refusal} → refusal_of s x ≡ some r → step_after s x ≡ s
unfolding refusal_of step_after
step-refused s (plain x) e = let a = sym (kept (charged_counters s.counters (added_by x)) s.counters e) in λ t. record { counters = a t; ledgers = s.ledgers }
step-refused s (through q x) e =
    let a = sym (kept (charged_counters s.counters (added_by x)) s.counters e) in
    let b = sym (kept (charged_ledgers q s.ledgers (added_by x)) s.ledgers e) in
    λ t. record { counters = a t; ledgers = b t }

pub step-elements : (s : State) (x : Call) → refusal_of s x ≡ none → ElementRow NUM-COUNTERS s.counters
unfolding refusal_of
step-elements s (plain x) e = ((charge-accepted x.nr x.floor x.ops s.counters).0 e).4
step-elements s (through q x) e =
    ((charge-accepted x.nr x.floor x.ops s.counters).0 (through-charged x.nr x.floor q x.ops s.counters s.ledgers e)).4

pub step-counters : (s : State) (x : Call) → refusal_of s x ≡ none → (step_after s x).counters ≡ charged_counters s.counters (added_by (charge_of x))
unfolding refusal_of step_after
step-counters s (plain x) e = left (charged_counters s.counters (added_by x)) s.counters e
step-counters s (through q x) e = left (charged_counters s.counters (added_by x)) s.counters e

pub plain-ledgers : (s : State) (x : Charge) → (step_after s (plain x)).ledgers ≡ s.ledgers
unfolding step_after
plain-ledgers s x = refl

pub through-ledgers : (s : State) (q : ℕ) (x : Charge) → refusal_of s (through q x) ≡ none → (step_after s (through q x)).ledgers ≡ charged_ledgers q s.ledgers (added_by x)
unfolding refusal_of step_after
through-ledgers s q x e = left (charged_ledgers q s.ledgers (added_by x)) s.ledgers e

pub step-used : (s : State) (q : ℕ) (x : Charge) → refusal_of s (through q x) ≡ none → q < in_use (length s.ledgers)
unfolding refusal_of
step-used s q x e = through-used x.nr x.floor q x.ops s.counters s.ledgers e
