use mathlib.Core.Path.{◌≡◌, sym, ◌∙◌}
use mathlib.Core.List.{List}
use Prim.Native.Nat.{ℕ, ◌+◌, ◌*◌, ◌≤◌}
use native.Mathlib.Nat.{zero-add}
use native.Mathlib.Omega.{arith}
use lib.ListN.{length}
use lib.Seq.{sets}
use Rattle.lists.specs.Tab.{tab, word, cells_of, table_of}
use Rattle.lists.proofs.Laws.{Filled, filled_none, filled_row_lem, filled-rows, length-table}
use Rattle.lists.proofs.Kept.{filled-past, sets_behind}
use Rattle.answer.proofs.Laws.{sets-overwrite}
use Rattle.bitwise.specs.Table.{filled_row, filled}
use Rattle.bitwise.proofs.Table.{length-filled_row}
use Rattle.bitwise_counts.proofs.histogram.put_counters.Goals as goal

-- a turn: the eleven words before the counters are those that the row has
turn : (counters l : List ℕ) {row row' : List ℕ} (r : ℕ) → Filled l 0 22020096 (cells_of 21 (filled_row counters l)) row (r * 21) → r * 21 ≤ length l
    → row' ≡ sets row (r * 21 + 11) (tab 10 (λ k. word counters (r * 10 + k))) → row' ≡ sets row (r * 21) (filled_row counters l r)
unfolding filled_row
turn counters l {row} r h b e =
    e ∙ sets_behind row (r * 21) 11 (λ k. word l (r * 21 + k)) (tab 10 (λ k. word counters (r * 10 + k)))
    (λ k c. sym (filled-past h b (r * 21 + k) (omega arith)))

whole : (counters l : List ℕ) {row : List ℕ} (r : ℕ) → Filled l 0 22020096 (cells_of 21 (filled_row counters l)) row (r * 21) → 22020096 ≤ length l → 1048576 ≤ r
    → row ≡ filled counters l
unfolding filled
whole counters l r h b c =
    filled-rows 1048576 21 (filled_row counters l) r h c
    ∙ sets-overwrite l (table_of 1048576 21 (filled_row counters l)) (omega (arith, length-table 1048576 21 (filled_row counters l), b))

pub loop-r-init : goal.loop-r-init
loop-r-init c = filled_none _ _ _ _

pub loop-r-preserved : goal.loop-r-preserved
loop-r-preserved c =
    let a = c.args in
    let r = c.loop-r.r in
    let row = filled_row a.counters.now a.table.now in
    filled_row_lem 1048576 21 row r c.loop-r.invariant c.loop-r-test.true (length-filled_row a.counters.now a.table.now r) (sym (zero-add (r * 21)))
    (turn a.counters.now a.table.now r c.loop-r.invariant (omega arith) c.put_part.ensures)

pub returns : goal.returns
returns c = whole c.args.counters.now c.args.table.now c.loop-r.r c.loop-r.invariant c.requires.1 c.loop-r-test.false
