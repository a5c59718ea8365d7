-- `op_sums::finish` meets its contract: the floor is checked first.
use Prim.Native.Nat.{ℕ}
use mathlib.Core.Bool.{Bool}
use mathlib.Core.Option.{Option}
use mathlib.Core.Path.{◌≡◌, ap, sym, ◌∙◌}
use Rattle.answer.specs.Refusal.{accepted, answer_of, not_floor, PowerFloor}
use Rattle.answer.specs.declared.Refusal.{Refusal}
use Rattle.answer.proofs.Laws.{handed-on, is-refused, is-done}
use Rattle.answer.proofs.Refusals.{floor-accepted, floor-most}
use Rattle.op_file.specs.Reader.{end_of, checked, finish_of}
use Rattle.op_file.specs.declared.Reading.{Reading}
use Rattle.op_file.proofs.Cases.{floor-ends}
use Rattle.op_sums.proofs.finish.Goals as goal
use Rattle.std.specs.Prelude.{Result, Ok, Err, ⊤}

-- what the check says
refused : (floor : ℕ) (shipped : Bool) (c : Result Reading Refusal) {r : Refusal} {a : Result ⊤ Refusal} → a ≡ answer_of (not_floor floor accepted) → a ≡ Err r → Err r ≡ finish_of floor shipped c
unfolding finish_of
refused floor shipped c e q = ap (λ (o : Option Refusal). checked o (end_of floor shipped c)) (sym (is-refused _ (sym q ∙ e)))

passed : (floor : ℕ) {a : Result ⊤ Refusal} → a ≡ answer_of (not_floor floor accepted) → a ≡ Ok tt → PowerFloor floor
passed floor e q = (floor-accepted floor).0 (is-done _ (sym q ∙ e))

pub returns-in_err-check_floor : goal.returns-in_err-check_floor
returns-in_err-check_floor c = handed-on _ c.from_residual.ensures.1 ∙ refused _ _ _ c.check_floor.ensures c.in_err-check_floor.was

pub ended-requires : goal.ended-requires
ended-requires c = floor-most _ (passed _ c.check_floor.ensures c.in_ok-check_floor.was)

pub returns : goal.returns
returns c =
    c.ended.ensures ∙ sym (floor-ends _ _ (passed _ c.check_floor.ensures c.in_ok-check_floor.was) _)
