-- The whole table: its rows as they are generated, and with their multiplicities.
use mathlib.Core.Path.{◌≡◌, refl, sym, ap, ◌∙◌}
use mathlib.Core.List.{List, ◌++◌}
use Prim.Native.Nat.{ℕ, ◌+◌, ◌*◌, ◌%◌, ◌≤◌, ◌<◌}
use native.Mathlib.Omega.{arith}
use lib.Arith.{digits_div, digits_mod}
use lib.ListN.{length, length-append, get_or-append}
use lib.Seq.{get_or-append-add}
use Rattle.lists.specs.Tab.{tab, word, row_at, cells_of, table_of}
use Rattle.lists.proofs.Laws.{length-tab, get_d-tab, length-table, row_at-table}
use Rattle.answer.specs.Refusal.{overwrite}
use Rattle.answer.proofs.Overwrite.{over-new, over-past, over-length}
use Rattle.bitwise.specs.Columns.{NUM-ROWS, NUM-COLUMNS, NUM-PRECOMPUTED-COLS, NUM-LOOKUP-TYPES, TABLE-WORDS}
use Rattle.bitwise.specs.Row.{row_of_xyz, bitwise_row}
use Rattle.bitwise.specs.Table.{trace_row, bitwise_table, filled_row, filled}

-- ---- as it is generated

pub length-bitwise_row : (i : ℕ) → length (bitwise_row i) ≡ NUM-PRECOMPUTED-COLS
unfolding bitwise_row row_of_xyz
length-bitwise_row i = refl

-- words, and n more behind them
length-behind : (front : List ℕ) (n : ℕ) (f : ℕ → ℕ) (m : ℕ) → length front ≡ m → length (front ++ tab n f) ≡ m + n
length-behind front n f m e = length-append front (tab n f) ∙ omega (arith, e, length-tab n f)

pub length-trace_row : (i : ℕ) → length (trace_row i) ≡ NUM-COLUMNS
unfolding trace_row
length-trace_row i = length-behind (bitwise_row i) NUM-LOOKUP-TYPES _ NUM-PRECOMPUTED-COLS (length-bitwise_row i)

pub length-bitwise_table : length bitwise_table ≡ TABLE-WORDS
unfolding bitwise_table
length-bitwise_table = length-table NUM-ROWS NUM-COLUMNS trace_row

-- row i is its eleven fixed words, and ten zeros
pub bitwise_table-row : (i : ℕ) → i < NUM-ROWS → row_at NUM-COLUMNS bitwise_table i ≡ bitwise_row i ++ tab 10 (λ k. 0)
unfolding bitwise_table trace_row
bitwise_table-row i h = row_at-table NUM-ROWS NUM-COLUMNS trace_row i h (length-trace_row i)

-- every multiplicity is 0, in what the call leaves of a table that is long enough
pub trace-mu : (table : List ℕ) (r k : ℕ) → r < NUM-ROWS → k < 10 → word (overwrite bitwise_table table) (r * 21 + (11 + k)) ≡ 0
unfolding bitwise_table table_of trace_row
trace-mu table r k hr hk =
    let b : 11 + k < 21 = omega arith in
    over-new TABLE-WORDS (cells_of NUM-COLUMNS trace_row) table (r * 21 + (11 + k)) (omega arith)
    ∙ ap (λ (q : ℕ). word (trace_row q) ((r * 21 + (11 + k)) % 21)) (digits_div r b)
    ∙ ap (word (trace_row r)) (digits_mod r b)
    ∙ ap (λ (n : ℕ). word (bitwise_row r ++ tab 10 (λ j. 0)) (n + k)) (sym (length-bitwise_row r))
    ∙ get_or-append-add (bitwise_row r) (tab 10 (λ j. 0)) k 0
    ∙ get_d-tab 10 (λ j. 0) k 0 hk

-- ---- with its multiplicities

module _ (counters table : List ℕ) where
  pub length-filled_row : (r : ℕ) → length (filled_row counters table r) ≡ NUM-COLUMNS
  unfolding filled_row
  length-filled_row r =
      let fixed = tab NUM-PRECOMPUTED-COLS (λ k. word table (r * NUM-COLUMNS + k)) in
      length-behind fixed NUM-LOOKUP-TYPES _ NUM-PRECOMPUTED-COLS (length-tab NUM-PRECOMPUTED-COLS (λ k. word table (r * NUM-COLUMNS + k)))

  fixed_word : (r k : ℕ) → k < NUM-PRECOMPUTED-COLS → word (filled_row counters table r) k ≡ word table (r * NUM-COLUMNS + k)
  unfolding filled_row
  fixed_word r k h =
      get_or-append (tab NUM-PRECOMPUTED-COLS (λ j. word table (r * NUM-COLUMNS + j))) _ 0 k
      (omega (arith, length-tab NUM-PRECOMPUTED-COLS (λ j. word table (r * NUM-COLUMNS + j)), h))
      ∙ get_d-tab NUM-PRECOMPUTED-COLS (λ j. word table (r * NUM-COLUMNS + j)) k 0 h

  count_word : (r k : ℕ) → k < NUM-LOOKUP-TYPES → word (filled_row counters table r) (NUM-PRECOMPUTED-COLS + k) ≡ word counters (r * NUM-LOOKUP-TYPES + k)
  unfolding filled_row
  count_word r k h =
      let fixed = tab NUM-PRECOMPUTED-COLS (λ j. word table (r * NUM-COLUMNS + j)) in
      let counts = tab NUM-LOOKUP-TYPES (λ j. word counters (r * NUM-LOOKUP-TYPES + j)) in
      ap (λ (n : ℕ). word (fixed ++ counts) (n + k)) (sym (length-tab NUM-PRECOMPUTED-COLS (λ j. word table (r * NUM-COLUMNS + j))))
      ∙ get_or-append-add fixed counts k 0
      ∙ get_d-tab NUM-LOOKUP-TYPES (λ j. word counters (r * NUM-LOOKUP-TYPES + j)) k 0 h

  -- any word of a filled table, and those past it
  filled-word : (r k : ℕ) → r < NUM-ROWS → k < NUM-COLUMNS → word (filled counters table) (r * NUM-COLUMNS + k) ≡ word (filled_row counters table r) k
  unfolding filled table_of
  filled-word r k hr hk =
      over-new TABLE-WORDS (cells_of NUM-COLUMNS (filled_row counters table)) table (r * NUM-COLUMNS + k) (omega arith)
      ∙ ap (λ (q : ℕ). word (filled_row counters table q) ((r * NUM-COLUMNS + k) % NUM-COLUMNS)) (digits_div r hk)
      ∙ ap (word (filled_row counters table r)) (digits_mod r hk)

  pub filled-past : (k : ℕ) → TABLE-WORDS ≤ k → word (filled counters table) k ≡ word table k
  unfolding filled table_of
  filled-past k h = over-past TABLE-WORDS (cells_of NUM-COLUMNS (filled_row counters table)) table k h

  pub filled-length : TABLE-WORDS ≤ length table → length (filled counters table) ≡ length table
  unfolding filled table_of
  filled-length h = over-length TABLE-WORDS (cells_of NUM-COLUMNS (filled_row counters table)) table h

  -- "Column 11 + k of row r becomes counter r × 10 + k"
  pub filled-count : (r k : ℕ) → r < NUM-ROWS → k < 10 → word (filled counters table) (r * 21 + (11 + k)) ≡ word counters (r * 10 + k)
  filled-count r k hr hk = filled-word r (11 + k) hr (omega arith) ∙ count_word r k hk

  -- "fixed columns stay"
  pub filled-fixed : (r k : ℕ) → r < NUM-ROWS → k < 11 → word (filled counters table) (r * 21 + k) ≡ word table (r * 21 + k)
  filled-fixed r k hr hk = filled-word r k hr (omega arith) ∙ fixed_word r k hk
