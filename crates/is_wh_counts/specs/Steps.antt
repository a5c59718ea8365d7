-- What the functions below the call do, a step each: nothing where nothing is added.
use Rattle.std.specs.Prelude.{ℕ, zero, suc, ◌+◌, ◌*◌, ◌/◌, ◌%◌, ◌<◌, List, eqb}
use Rattle.lists.specs.Tab.{pick, word}
use Rattle.field.specs.Field.{p}
use Rattle.bitwise.specs.Columns.{NUM-COUNTERS}
use Rattle.bitwise.specs.Counters.{charge, lower_large}

-- n more on counter `at`
unfoldable pub charge_some : List ℕ → ℕ → ℕ → List ℕ
charge_some counters at n = pick (eqb n 0) counters (charge counters at n)

-- the lower of `least` and counter `at`, if n is added to it and it is p or more
unfoldable pub lower_some : List ℕ → ℕ → ℕ → ℕ → ℕ
lower_some counters at n least = pick (eqb n 0) least (lower_large (word counters at) at least)

-- the four counters of a row: of its μ, and μ times of its half and of the two halves of its word
unfoldable pub charged_by_row : List ℕ → ℕ → ℕ → ℕ → List ℕ
charged_by_row counters w h mu =
    charge_some (charge_some (charge_some (charge_some counters (mu * 10 + 5) 1) (h * 10 + 4) mu) (w % 65536 * 10 + 4) mu) (w / 65536 * 10 + 4) mu

unfoldable pub lower_by_row : List ℕ → ℕ → ℕ → ℕ → ℕ → ℕ
lower_by_row counters w h mu least =
    lower_some counters (w / 65536 * 10 + 4) mu (lower_some counters (w % 65536 * 10 + 4) mu (lower_some counters (h * 10 + 4) mu (lower_some counters (mu * 10 + 5) 1 least)))

-- those that are charged are below p
pub record RowBelow (counters : List ℕ) (w h mu : ℕ) : Type 0 where
  pub twenty : word counters (mu * 10 + 5) < p
  pub half : 0 < mu → word counters (h * 10 + 4) < p
  pub low : 0 < mu → word counters (w % 65536 * 10 + 4) < p
  pub high : 0 < mu → word counters (w / 65536 * 10 + 4) < p

-- of the first n rows of a list, from past the last counter on
unfoldable pub lower_by_rows : List ℕ → List ℕ → ℕ → ℕ
lower_by_rows rows counters zero = NUM-COUNTERS
lower_by_rows rows counters (suc i) =
    lower_by_row counters (word rows (3 * i)) (word rows (3 * i + 1)) (word rows (3 * i + 2)) (lower_by_rows rows counters i)
