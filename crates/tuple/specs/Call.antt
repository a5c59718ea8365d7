-- A call that gives a tuple of a row by its index: what it answers, and what it writes into the lent slice.
-- `width` is the number of columns, `count` the number of tuples, and `tuple` the definition of the row's tuples.
use Rattle.std.specs.Prelude.{ℕ, ◌≤◌, ◌<◌, ◌≡◌, List, length, take}
use Rattle.std.proofs.Math.Option.{Option, none, some}
use Rattle.lists.specs.Tab.{word}
use Rattle.answer.specs.Refusal.{overwrite, afterwards, past_end}
use Rattle.answer.specs.declared.Refusal.{Refusal}
use Rattle.field.specs.Field.{p}
use Rattle.tuple.specs.Values.{values_refusal}
use Rattle.tuple.specs.Tuple.{Tuple}
use Rattle.tuple.specs.declared.BusInteraction.{BusInteraction}
use Rattle.std.specs.Prelude.{Result, Ok, Err}

-- a tuple but for its values
abbrev pub interaction_of : Tuple → BusInteraction
interaction_of t = record { bus = t.bus; side = t.side; length = length t.values; multiplicity = t.multiplicity }

-- the checks: 1 for the index; then those of a call for the row's values, `size` of them into a slice of `room` words
unfoldable pub sized_refusal : ℕ → ℕ → List ℕ → ℕ → ℕ → ℕ → Option Refusal
sized_refusal width count row i size room = past_end count i (values_refusal width size row room)

-- none of these conditions holds. proofs/Refusals.antt: `accepted-is`, the checks pass exactly then; and each refusal
-- with its detail
pub record Accepted (width count : ℕ) (row : List ℕ) (i size room : ℕ) : Type 0 where
  pub index : i < count
  pub wide : width ≤ length row
  pub fits : size ≤ room
  pub below : (k : ℕ) → k < width → word row k < p

-- the checks, the size being the number of values of tuple i
unfoldable pub tuple_refusal : ℕ → ℕ → (List ℕ → ℕ → Tuple) → List ℕ → ℕ → List ℕ → Option Refusal
tuple_refusal width count tuple row i out = sized_refusal width count row i (length (tuple row i).values) (length out)

unfoldable pub tuple_answer : Tuple → Option Refusal → Result BusInteraction Refusal
tuple_answer t none = Ok (interaction_of t)
tuple_answer t (some r) = Err r

-- what the call answers, and what the lent slice holds afterwards
abbrev pub tuple_answer_of : ℕ → ℕ → (List ℕ → ℕ → Tuple) → List ℕ → ℕ → List ℕ → Result BusInteraction Refusal
tuple_answer_of width count tuple row i out = tuple_answer (tuple row i) (tuple_refusal width count tuple row i out)

abbrev pub tuple_after : ℕ → ℕ → (List ℕ → ℕ → Tuple) → List ℕ → ℕ → List ℕ → List ℕ
tuple_after width count tuple row i out =
    afterwards (tuple_refusal width count tuple row i out) (overwrite (tuple row i).values out) out

-- "A row may be lent longer than its columns; the rest is neither read nor written": not read
abbrev pub RestNotRead : ℕ → ℕ → (List ℕ → ℕ → Tuple) → Type 0
RestNotRead width count tuple =
    (row : List ℕ) (i : ℕ) (out : List ℕ) →
    (tuple_answer_of width count tuple (take width row) i out ≡ tuple_answer_of width count tuple row i out)
    × (tuple_after width count tuple (take width row) i out ≡ tuple_after width count tuple row i out)
