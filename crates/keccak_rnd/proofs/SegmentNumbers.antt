-- Round rows and tables of a list do not depend on its segment numbers: whatever operations the lists have, two that differ in segment
-- numbers only have the same rows, and where every number fits each call refuses both alike and leaves the same.
use mathlib.Core.Path.{◌≡◌, refl, ap}
use mathlib.Core.List.{List}
use Prim.Native.Nat.{ℕ, ◌*◌}
use lib.ListN.{length}
use Rattle.answer.specs.Refusal.{not_rounds, not_floor}
use Rattle.keccak.specs.Row.{op_at}
use Rattle.keccak.specs.Refusals.{op_count}
use Rattle.keccak.specs.SegmentNumbers.{ButSegments, ShortSegments}
use Rattle.keccak.proofs.SegmentNumbers.{free, refusal-free, call-free}
use Rattle.keccak_rnd.specs.Columns.{NUM-COLUMNS}
use Rattle.keccak_rnd.specs.Row.{op_row, round_row_at, round_height, round_table, round_rows}
use Rattle.keccak_rnd.specs.Refusals.{round_trace_refusal, round_rows_refusal}
use Rattle.keccak_rnd.specs.Calls.{round_trace_after, round_rows_after}

module _ (a b : List ℕ) (but : ButSegments a b) (nr : ℕ) where
  pub row-free : (i j : ℕ) → op_row nr (op_at a i) j ≡ op_row nr (op_at b i) j
  unfolding op_row
  row-free i j = free a b but (λ n op. op_row nr (op i) j) (λ n op. refl)

  pub rows-free : round_rows nr (op_count a) (op_at a) ≡ round_rows nr (op_count b) (op_at b)
  unfolding round_rows op_row
  rows-free = free a b but (round_rows nr) (λ n op. refl)

  pub table-free : (floor : ℕ) → round_table nr floor (op_count a) (op_at a) ≡ round_table nr floor (op_count b) (op_at b)
  unfolding round_table round_row_at op_row
  table-free floor = free a b but (round_table nr floor) (λ n op. refl)

  module _ (short-a : ShortSegments a) (short-b : ShortSegments b) where
    pub rows-call-free : (table : List ℕ)
        → (round_rows_refusal nr (length table) a ≡ round_rows_refusal nr (length table) b) × (round_rows_after nr a table ≡ round_rows_after nr b table)
    unfolding round_rows_refusal
    rows-call-free table =
        call-free table (ap (not_rounds nr) (refusal-free a b but short-a short-b (length table) (λ n. n * nr * NUM-COLUMNS))) rows-free

    pub trace-call-free : (floor : ℕ) (table : List ℕ)
        → (round_trace_refusal nr floor (length table) a ≡ round_trace_refusal nr floor (length table) b) × (round_trace_after nr floor a table ≡ round_trace_after nr floor b table)
    unfolding round_trace_refusal
    trace-call-free floor table =
        call-free table
        (λ t. not_rounds nr (not_floor floor (refusal-free a b but short-a short-b (length table) (λ n. round_height nr floor n * NUM-COLUMNS) t)))
        (table-free floor)
