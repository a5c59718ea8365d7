-- What a condition asks of a row: its column is there, and its word is below p.
use Rattle.std.specs.Prelude.{ℕ, ◌<◌, List, [], ◌∷◌, length}
use Rattle.lists.specs.Tab.{word}
use Rattle.field.specs.Field.{p}
use Rattle.templates.specs.declared.Cond.{Cond}
use Rattle.templates.specs.declared.Cond.TheVariants.{Always, When}

unfoldable pub CondIn : List ℕ → Cond → Type 0
CondIn row Always = Unit {0}
CondIn row (When c) = (c < length row) × (word row c < p)

-- the columns whose sum the condition is: none, or one
abbrev pub columns_of : Cond → List ℕ
columns_of Always = []
columns_of (When c) = c ∷ []
