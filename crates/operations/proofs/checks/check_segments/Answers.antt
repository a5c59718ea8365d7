-- `check_segments` meets its contract: the first segment word that is too wide is told.
use mathlib.Core.Path.{◌≡◌, refl, sym, ◌∙◌}
use mathlib.Core.Option.{some}
use mathlib.Core.List.{List}
use Prim.Native.Nat.{ℕ, ◌+◌, ◌*◌}
use lib.Dec.{ltb}
use Rattle.lists.specs.Tab.{word}
use Rattle.lists.specs.First.{Place, first_at, place_of}
use Rattle.lists.proofs.First.{place_at, place-nowhere}
use Rattle.answer.proofs.Laws.{at-yes, at-no, answers, accepts}
use Rattle.keccak.specs.Row.{OP-WORDS, LAST-SEGMENT, SEGMENT-WORD, op_at}
use Rattle.keccak.specs.Refusals.{op_count, wide_at}
use Rattle.operations.proofs.checks.check_segments.Goals as goal
use Rattle.std.specs.Prelude.{Some}

-- what the search says
found : (ops : List ℕ) {i : ℕ} {a : Place} → a ≡ Some i → a ≡ place_of (first_at (λ i. ltb LAST-SEGMENT (word ops (OP-WORDS * i + SEGMENT-WORD))) (op_count ops))
    → first_at (wide_at ops) (op_count ops) ≡ some i
unfolding wide_at op_at
found ops e q = place_at _ (sym e ∙ q)

pub returns-in-Some : goal.returns-in-Some
unfolding op_at
returns-in-Some c = answers (at-yes _ _ (found _ c.in-Some.is c.first_above.ensures))

pub returns : goal.returns
unfolding wide_at op_at
returns c = accepts (at-no _ (place-nowhere _ (sym c.in_default.is ∙ c.first_above.ensures)) refl)
