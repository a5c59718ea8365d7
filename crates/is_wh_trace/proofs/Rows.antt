-- The rows of the IS_WH table, stored one after the other, and the padding behind them.
use mathlib.Core.Path.{◌≡◌, refl, sym, ap, ◌∙◌}
use mathlib.Core.Bool.{Bool, true, false}
use mathlib.Core.List.{List, [], ◌∷◌}
use Prim.Native.Nat.{ℕ, zero, suc, ◌+◌, ◌-◌, ◌*◌, ◌%◌, ◌≤◌, ◌<◌}
use native.Mathlib.Nat.{zero-add, add-sub_of_le, le-add_right}
use native.Mathlib.Numerals.{add-one, add-two, add-three}
use native.Mathlib.Omega.{arith}
use borrow.Author.Tests.{lt-ltb, le-ltb}
use lib.Dec.{ltb}
use lib.ListN.{length, get_or, set}
use lib.Seq.{sets}
use Rattle.lists.specs.Tab.{pick, tab, cells_of, table_of, row_at}
use Rattle.lists.proofs.Laws.{tab-same, sets-append, length-table, table-add, row_at-table}
use Rattle.is_wh.specs.Row.{pad_row}
use Rattle.is_wh_trace.specs.Trace.{trace_row, table_row, row_count, is_wh_height, is_wh_table}

pub four-stored : (l : List ℕ) (at a b c d : ℕ) → set (set (set (set l at a) (at + 1) b) (at + 2) c) (at + 3) d ≡ sets l at (a ∷ b ∷ c ∷ d ∷ [])
four-stored l at a b c d = rw (add-one at, add-two at, add-three at)

pub length-trace : (rows : List ℕ) (i : ℕ) → length (trace_row rows i) ≡ 4
unfolding trace_row
length-trace rows i = refl

pad-cell : (k : ℕ) → 0 ≡ get_or pad_row k 0
pad-cell zero = refl
pad-cell (suc zero) = refl
pad-cell (suc (suc zero)) = refl
pad-cell (suc (suc (suc zero))) = refl
pad-cell (suc (suc (suc (suc k)))) = refl

pub row_before : (rows : List ℕ) (n i : ℕ) → i < n → table_row rows n i ≡ trace_row rows i
unfolding table_row
row_before rows n i l = rw (lt-ltb i n l)

pub row-behind : (rows : List ℕ) (n i : ℕ) → n ≤ i → table_row rows n i ≡ pad_row
unfolding table_row
row-behind rows n i l = rw (le-ltb i n l)

pad-rows : (m : ℕ) → tab (m * 4) (λ k. 0) ≡ table_of m 4 (λ i. pad_row)
unfolding table_of
pad-rows m = tab-same (m * 4) (λ k. 0) (cells_of 4 (λ i. pad_row)) (λ k l. pad-cell (k % 4))

-- the rows, then the padding
pub padded : (l t₁ t₂ rows : List ℕ) (n h : ℕ) → n ≤ h → t₁ ≡ sets l 0 (table_of n 4 (trace_row rows))
    → t₂ ≡ sets t₁ (n * 4) (tab ((h - n) * 4) (λ k. 0)) → t₂ ≡ sets l 0 (table_of h 4 (table_row rows n))
padded l t₁ t₂ rows n h le e₁ e₂ =
    let a : List ℕ = table_of n 4 (trace_row rows) in
    let b : List ℕ = table_of (h - n) 4 (λ i. pad_row) in
    e₂
    ∙ ap (sets t₁ (n * 4)) (pad-rows (h - n))
    ∙ ap (λ (t : List ℕ). sets t (n * 4) b) e₁
    ∙ ap (λ (k : ℕ). sets (sets l 0 a) k b) (sym (length-table n 4 (trace_row rows)) ∙ sym (zero-add (length a)))
    ∙ sets-append l 0 a b
    ∙ ap (sets l 0)
    (sym (table-add n (h - n) 4 (table_row rows n) (trace_row rows) (λ i. pad_row) (omega arith)
    (λ i c. row_before rows n i c)
    (λ i c. row-behind rows n (n + i) (le-add_right n i))))
    ∙ ap (λ (k : ℕ). sets l 0 (table_of k 4 (table_row rows n))) (add-sub_of_le le)

pub length-is_wh_table : (rows : List ℕ) → length (is_wh_table rows) ≡ is_wh_height rows * 4
unfolding is_wh_table
length-is_wh_table rows = length-table (is_wh_height rows) 4 (table_row rows (row_count rows))

-- row i of the written table
pub length-row : (rows : List ℕ) (n i : ℕ) → length (table_row rows n i) ≡ 4
unfolding table_row trace_row
length-row rows n i = go (ltb i n)
  where
    go : (b : Bool) → length (pick b (trace_row rows i) pad_row) ≡ 4
    go true = refl
    go false = refl

pub written_row : (rows : List ℕ) (i : ℕ) → i < is_wh_height rows → row_at 4 (is_wh_table rows) i ≡ table_row rows (row_count rows) i
unfolding is_wh_table
written_row rows i l = row_at-table (is_wh_height rows) 4 (table_row rows (row_count rows)) i l (length-row rows (row_count rows) i)
