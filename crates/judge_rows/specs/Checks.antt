-- What a scan looks at in the rows of a table: their values, or their tuples.
--     size_of          how many a row has
--     fails           whether one of a row is not good: a value that is not 0, a tuple that needs a match and has none
--     first_failure    the first of a table that is not good
--     Tells           a slice whose first words tell which of a row's are good
use Rattle.std.specs.Prelude.{◌≡◌, Bool, not, List, ℕ, ◌<◌, eqb, length}
use Rattle.std.proofs.Math.Option.{Option}
use Rattle.lists.specs.Tab.{word}
use Rattle.matching.specs.Matching.{matched}
use Rattle.verdict.specs.Kind.{Kind}
use Rattle.verdict.specs.Verdict.{first_value, first_lookup}
use Rattle.judge_rows.specs.declared.Check.{Check}
use Rattle.judge_rows.specs.declared.Check.TheVariants.{Values, Lookups}

unfoldable pub size_of : Kind → Check → ℕ
size_of K Values = K.values
size_of K Lookups = K.tuples

unfoldable pub fails : Kind → Check → List ℕ → ℕ → Bool
fails K Values x i = not (eqb (K.value x i) 0)
fails K Lookups x i = not (matched (K.tuple x i))

unfoldable pub first_failure : Kind → Check → List ℕ → Option (ℕ × ℕ)
first_failure K Values ws = first_value K ws
first_failure K Lookups ws = first_lookup K ws

-- word i is 0 exactly where number i of the row x is good
pub record Tells (K : Kind) (c : Check) (x old new : List ℕ) : Type 0 where
  pub kept : length new ≡ length old
  pub is : (i : ℕ) → i < size_of K c → fails K c x i ≡ not (eqb (word new i) 0)
