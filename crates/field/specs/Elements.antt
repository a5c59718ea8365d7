-- Which words of a slice are no field elements: those that are p or more; and a row of elements.
use Rattle.std.specs.Prelude.{ℕ, ◌≤◌, ◌<◌, Bool, List, leb, length}
use Rattle.std.proofs.Math.Option.{Option}
use Rattle.lists.specs.Tab.{word}
use Rattle.lists.specs.First.{first_at}
use Rattle.field.specs.Field.{p}

-- word k is p or more
unfoldable pub not_element : List ℕ → ℕ → Bool
not_element ws k = leb p (word ws k)

-- the place of the first such word among the first n
abbrev pub first_not_element : List ℕ → ℕ → Option ℕ
first_not_element ws n = first_at (not_element ws) n

-- what the functions of a row ask of it: it has its `width` columns, and each of them is a field element
pub record ElementRow (width : ℕ) (row : List ℕ) : Type 0 where
  pub long : width ≤ length row
  pub below : (k : ℕ) → k < width → word row k < p
