-- Core tables that cancel: rows that are the same but for MU, where the MUs add up to 0 mod p. proofs/Cancel.antt: both of
-- them slip through every sum.
--     crooked       the row: at address 1, which is no multiple of 8
--     two_rows       two of them, their MUs 1 and p - 1
--     many_rows      p of them, their MUs 1
--     Slips         what is so of such a table
use Rattle.std.specs.Prelude.{List, [], ◌∷◌, ◌++◌, ℕ, ◌+◌, ◌-◌, ◌*◌, ◌/◌, ◌%◌, eqb, ltb}
use Rattle.lists.specs.Tab.{pick, tab, table_of}
use Rattle.field.specs.Field.{p}
use Rattle.tuple.specs.declared.Bus.{Bus}
use Rattle.keccak.specs.Columns.{ADDR, STATE-PTR, MU, NUM-COLUMNS}
use Rattle.verdict.specs.Kind.{row, Whole, Elements, Active}
use Rattle.verdict.specs.CoreAndRound.{core_layout}
use Rattle.verdict.specs.Claims.{Addressed}
use Rattle.bus_sums.specs.Sums.{Fillings, Agree, nobody}

-- address 1, pointer i at 1 + 8i, and zeros
unfoldable pub cell : ℕ → ℕ
cell k =
    pick (ltb k STATE-PTR)
    (pick (eqb k ADDR) 1 0)
    (pick (eqb ((k - STATE-PTR) % 3) 0) (1 + 8 * ((k - STATE-PTR) / 3)) 0)

unfoldable pub crooked : ℕ → List ℕ
crooked m = tab MU cell ++ (m ∷ [])

-- n rows, the MU of row r being mu r
abbrev pub crooked_table : ℕ → (ℕ → ℕ) → List ℕ
crooked_table n mu = table_of n NUM-COLUMNS (λ r. crooked (mu r))

-- the MUs 1 and p - 1
abbrev pub opposite : ℕ → ℕ
opposite r = pick (eqb r 0) 1 (p - 1)

abbrev pub two_rows : List ℕ
two_rows = crooked_table 2 opposite

abbrev pub many_rows : List ℕ
many_rows = crooked_table p (λ r. 1)

-- nothing is written into the tables that are looked up
abbrev pub nothing : Fillings
nothing = record { bitwise = λ i j. 0; constants = λ r. 0; is-wh = [] }

-- On every bus the sums agree, with no round row and nothing looked up; and yet a row is active that is not where it should
-- be. (Of the table's values nothing is said.)
pub record Slips (core : List ℕ) : Type 0 where
  pub whole : Whole core_layout core
  pub below : Elements core
  pub agree : (b : Bus) (v : List ℕ) → Agree 24 core [] nothing nobody b v
  pub active : Active core_layout core 0
  pub misplaced : Addressed (row core_layout core 0) → ⊥
