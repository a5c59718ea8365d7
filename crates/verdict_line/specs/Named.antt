-- What the function that evaluates a tuple asks: both tables are of field elements, and the row and the tuple are there.
use Rattle.std.specs.Prelude.{ℕ, ◌<◌, List}
use Rattle.keccak.specs.Tuples.{NUM-TUPLES as CORE-TUPLES}
use Rattle.keccak_rnd.specs.Tuples.{NUM-TUPLES as ROUND-TUPLES}
use Rattle.verdict.specs.Kind.{rows, Elements}
use Rattle.verdict.specs.CoreAndRound.{core_layout, round_layout}
use Rattle.verdict.specs.declared.Table.{Table}
use Rattle.verdict.specs.declared.Table.TheVariants.{Core, Round}

abbrev pub There : List ℕ → List ℕ → Table → ℕ → ℕ → Type 0
There core round Core r i = (r < rows core_layout core) × (i < CORE-TUPLES)
There core round Round r i = (r < rows round_layout round) × (i < ROUND-TUPLES)

pub record Named (core round : List ℕ) (t : Table) (r i : ℕ) : Type 0 where
  pub core-below : Elements core
  pub round-below : Elements round
  pub there : There core round t r i
