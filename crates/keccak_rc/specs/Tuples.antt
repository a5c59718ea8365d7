-- tables/keccak_rc.rs, `bus_interactions`: the one tuple that a row receives.
use Rattle.std.specs.Prelude.{ℕ, List}
use Rattle.lists.specs.Tab.{tab, word}
use Rattle.tuple.specs.Tuple.{Tuple, receiver}
use Rattle.tuple.specs.declared.Bus.TheVariants.{KeccakRc}
use Rattle.keccak_rc.specs.Columns.{MU, NUM-PRECOMPUTED-COLS}

-- How many tuples a row has.
abbrev pub NUM-TUPLES : ℕ
NUM-TUPLES = 1

-- Tuple i of a row of ten words, which is tuple 0: its nine fixed words, as often as MU says.
unfoldable pub rc_tuple : List ℕ → ℕ → Tuple
rc_tuple row i = receiver KeccakRc (word row MU) (tab NUM-PRECOMPUTED-COLS (word row))
