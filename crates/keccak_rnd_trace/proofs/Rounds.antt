-- What the check of a number of rounds says of the call that makes it first.
use Prim.Native.Nat.{ℕ, ◌≤◌}
use mathlib.Core.Path.{◌≡◌, sym, ◌∙◌}
use mathlib.Core.Option.{Option, some}
use Rattle.answer.specs.Limits.{MAX-ROUNDS}
use Rattle.answer.specs.Refusal.{accepted, not_rounds, answer_of}
use Rattle.answer.specs.declared.Refusal.{Refusal}
use Rattle.answer.proofs.Laws.{is-refused, is-done}
use Rattle.answer.proofs.Refusals.{rounds-accepted, rounds-still}
use Rattle.std.specs.Prelude.{Result, Ok, Err, ⊤}

module _ (nr : ℕ) {a : Result ⊤ Refusal} (told : a ≡ answer_of (not_rounds nr accepted)) where
  pub rounds-refused : {r : Refusal} (later : Option Refusal) → a ≡ Err r → not_rounds nr later ≡ some r
  rounds-refused later e = rounds-still nr later (is-refused (not_rounds nr accepted) (sym e ∙ told))

  pub rounds-done : a ≡ Ok tt → (1 ≤ nr) × (nr ≤ MAX-ROUNDS)
  rounds-done e = (rounds-accepted nr).0 (is-done (not_rounds nr accepted) (sym e ∙ told))
