-- A call that gives the values of a row: what it answers, and what it writes into the lent slice. `width` is the number
-- of columns, `count` the number of values, and `value` their definition.
use Rattle.std.specs.Prelude.{ℕ, ◌≤◌, ◌<◌, ◌≡◌, List, length, take}
use Rattle.std.proofs.Math.Option.{Option}
use Rattle.lists.specs.Tab.{tab, word}
use Rattle.answer.specs.Refusal.{refuse_at, accepted, answer_of, overwrite, afterwards, too_short}
use Rattle.answer.specs.declared.Refusal.{Refusal}
use Rattle.answer.specs.declared.Refusal.TheVariants.{NotElement}
use Rattle.field.specs.Field.{p}
use Rattle.field.specs.Elements.{first_not_element}
use Rattle.std.specs.Prelude.{Result, ⊤}

-- the checks: 3 for the row, then for the slice of `room` words; 5 for the first column that is p or more
unfoldable pub values_refusal : ℕ → ℕ → List ℕ → ℕ → Option Refusal
values_refusal width count row room =
    too_short (length row) width
    (too_short room count
    (refuse_at (first_not_element row width) NotElement
    accepted))

-- none of these conditions holds. proofs/Values.antt: `accepted-is`, the checks pass exactly then; and each refusal
-- with its detail
pub record Accepted (width count : ℕ) (row : List ℕ) (room : ℕ) : Type 0 where
  pub wide : width ≤ length row
  pub fits : count ≤ room
  pub below : (k : ℕ) → k < width → word row k < p

-- what the call answers, and what the lent slice holds afterwards
abbrev pub values_answer : ℕ → ℕ → List ℕ → List ℕ → Result ⊤ Refusal
values_answer width count row out = answer_of (values_refusal width count row (length out))

abbrev pub values_after : ℕ → ℕ → (List ℕ → ℕ → ℕ) → List ℕ → List ℕ → List ℕ
values_after width count value row out =
    afterwards (values_refusal width count row (length out)) (overwrite (tab count (value row)) out) out

-- "A row may be lent longer than its columns; the rest is neither read nor written": not read
abbrev pub RestNotRead : ℕ → ℕ → (List ℕ → ℕ → ℕ) → Type 0
RestNotRead width count value =
    (row out : List ℕ) →
    (values_answer width count (take width row) out ≡ values_answer width count row out)
    × (values_after width count value (take width row) out ≡ values_after width count value row out)
