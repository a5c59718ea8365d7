-- tables/bitwise.rs, `generate_bitwise_trace` and `fill_multiplicities`: the whole table, and its multiplicities.
use Rattle.std.specs.Prelude.{ℕ, ◌+◌, ◌*◌, List, ◌++◌, length}
use Rattle.std.proofs.Math.Option.{Option}
use Rattle.lists.specs.Tab.{tab, word, table_of}
use Rattle.field.specs.Elements.{first_not_element}
use Rattle.answer.specs.Refusal.{refuse_at, accepted, overwrite, afterwards, too_short}
use Rattle.answer.specs.declared.Refusal.{Refusal}
use Rattle.answer.specs.declared.Refusal.TheVariants.{NotElement}
use Rattle.bitwise.specs.Columns.{NUM-ROWS, NUM-COLUMNS, NUM-PRECOMPUTED-COLS, NUM-LOOKUP-TYPES, NUM-COUNTERS, TABLE-WORDS}
use Rattle.bitwise.specs.Row.{bitwise_row}

-- A row of the table as it is generated: "All output columns are precomputed. Multiplicity columns are initialized to
-- zero".
unfoldable pub trace_row : ℕ → List ℕ
trace_row i = bitwise_row i ++ tab NUM-LOOKUP-TYPES (λ k. 0)

-- `generate_bitwise_trace`: "a table with 2^20 rows, one for each combination" of X, Y and Z.
unfoldable pub bitwise_table : List ℕ
bitwise_table = table_of NUM-ROWS NUM-COLUMNS trace_row

-- What it refuses: 3 a table shorter than that.
unfoldable pub trace_refusal : List ℕ → Option Refusal
trace_refusal table = too_short (length table) TABLE-WORDS accepted

-- What it leaves: the table, or the old words where it is refused.
abbrev pub trace_after : List ℕ → List ℕ
trace_after table = afterwards (trace_refusal table) (overwrite bitwise_table table) table

-- Row r with its multiplicities: the eleven fixed words that it has, and then its ten counters, in the order of the
-- kinds' numbers, which is that of the columns.
unfoldable pub filled_row : List ℕ → List ℕ → ℕ → List ℕ
filled_row counters table r =
    tab NUM-PRECOMPUTED-COLS (λ k. word table (r * NUM-COLUMNS + k))
    ++ tab NUM-LOOKUP-TYPES (λ k. word counters (r * NUM-LOOKUP-TYPES + k))

-- `fill_multiplicities`: "Write the accumulated multiplicities into the BITWISE trace's MU columns." (The Rust leaves a
-- cell alone whose counter is 0, and "assumes the MU columns are still zero"; here it becomes 0.)
unfoldable pub filled : List ℕ → List ℕ → List ℕ
filled counters table = overwrite (table_of NUM-ROWS NUM-COLUMNS (filled_row counters table)) table

-- What it refuses: 3 too few counters, 3 a short table, 5 the first counter that is p or more.
unfoldable pub fill_refusal : List ℕ → List ℕ → Option Refusal
fill_refusal counters table =
    too_short (length counters) NUM-COUNTERS
    (too_short (length table) TABLE-WORDS
    (refuse_at (first_not_element counters NUM-COUNTERS) NotElement
    accepted))

-- What it leaves: the table with its multiplicities, or the old words where it is refused.
abbrev pub fill_after : List ℕ → List ℕ → List ℕ
fill_after counters table = afterwards (fill_refusal counters table) (filled counters table) table
