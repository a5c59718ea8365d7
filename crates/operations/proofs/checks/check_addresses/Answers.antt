-- `check_addresses` meets its contract: first the addresses that are too high, then those that are no multiple of 8.
use mathlib.Core.Path.{◌≡◌, refl, sym, ◌∙◌}
use Prim.Native.Nat.{ℕ, ◌+◌, ◌*◌}
use lib.Dec.{ltb}
use mathlib.Core.Option.{none, some}
use mathlib.Core.List.{List}
use Rattle.lists.specs.Tab.{word}
use Rattle.lists.specs.First.{Place, first_at, place_of}
use Rattle.lists.proofs.First.{place_at, place-nowhere}
use Rattle.answer.proofs.Laws.{at-yes, at-no, answers, accepts}
use Rattle.keccak.specs.Row.{OP-WORDS, LAST-ADDRESS, op_at}
use Rattle.keccak.specs.Refusals.{op_count, high_at}
use Rattle.operations.proofs.checks.check_addresses.Goals as goal
use Rattle.std.specs.Prelude.{Some, None}

-- what the search for an address that is too high says
high-found : (ops : List ℕ) {i : ℕ} {a : Place} → a ≡ Some i → a ≡ place_of (first_at (λ i. ltb LAST-ADDRESS (word ops (OP-WORDS * i + 1))) (op_count ops))
    → first_at (high_at ops) (op_count ops) ≡ some i
unfolding high_at op_at
high-found ops e q = place_at _ (sym e ∙ q)

low : (ops : List ℕ) {a : Place} → a ≡ None → a ≡ place_of (first_at (λ i. ltb LAST-ADDRESS (word ops (OP-WORDS * i + 1))) (op_count ops))
    → first_at (high_at ops) (op_count ops) ≡ none
unfolding high_at op_at
low ops e q = place-nowhere _ (sym e ∙ q)

pub returns-in-Some : goal.returns-in-Some
unfolding op_at
returns-in-Some c = answers (at-yes _ _ (high-found _ c.in-Some.is c.first_above.ensures))

pub returns-in-Some-first_unaligned : goal.returns-in-Some-first_unaligned
unfolding op_at
returns-in-Some-first_unaligned c =
    answers (at-no _ (low _ c.in_default.is c.first_above.ensures) (at-yes _ _ (place_at _ (sym c.in-Some-first_unaligned.is ∙ c.first_unaligned.ensures))))

pub returns : goal.returns
returns c =
    accepts
    (at-no _ (low _ c.in_default.is c.first_above.ensures)
    (at-no _ (place-nowhere _ (sym c.in_default-first_unaligned.is ∙ c.first_unaligned.ensures)) refl))
