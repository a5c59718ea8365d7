-- `keccak_trace::put_core_rows` meets its contract: the rows of the operations, then the padding rows.
use mathlib.Core.Path.{◌≡◌, sym, ap, ◌∙◌}
use Prim.Native.Nat.{ℕ, ◌+◌, ◌-◌, ◌*◌, ◌≤◌}
use native.Mathlib.Omega.{arith}
use lib.ListN.{length}
use mathlib.Core.List.{List}
use native.Mathlib.Nat.{zero-add, add-sub_of_le, le-add_right}
use lib.Seq.{sets}
use Rattle.lists.specs.Tab.{table_of}
use Rattle.keccak.specs.Row.{core_row, op_at, core_pad, core_row_at}
use Rattle.lists.proofs.Laws.{sets-append, length-table, table-add}
use Rattle.keccak.proofs.Table.{core-row-op, core-row-pad}
use Rattle.keccak_trace.proofs.put_core_rows.Goals as goal

-- the operations' rows, then the padding
rows : (l t₁ t₂ ws : List ℕ) (n h : ℕ) → n ≤ h → t₁ ≡ sets l 0 (table_of n 486 (λ i. core_row (op_at ws i)))
    → t₂ ≡ sets t₁ (n * 486) (table_of (h - n) 486 (λ i. core_pad)) → t₂ ≡ sets l 0 (table_of h 486 (core_row_at n (op_at ws)))
rows l t₁ t₂ ws n h le e₁ e₂ =
    let a : List ℕ = table_of n 486 (λ i. core_row (op_at ws i)) in
    let b : List ℕ = table_of (h - n) 486 (λ i. core_pad) in
    e₂ ∙ ap (λ (t : List ℕ). sets t (n * 486) b) e₁
    ∙ ap (λ (k : ℕ). sets (sets l 0 a) k b) (sym (length-table n 486 (λ i. core_row (op_at ws i))) ∙ sym (zero-add (length a)))
    ∙ sets-append l 0 a b
    ∙ ap (sets l 0)
    (sym (table-add n (h - n) 486 (core_row_at n (op_at ws)) (λ i. core_row (op_at ws i)) (λ i. core_pad) (omega arith)
    (λ i c. core-row-op n (op_at ws) i c)
    (λ i c. core-row-pad n (op_at ws) (n + i) (le-add_right n i))))
    ∙ ap (λ (k : ℕ). sets l 0 (table_of k 486 (core_row_at n (op_at ws)))) (add-sub_of_le le)

pub returns : goal.returns
returns c =
    rows c.args.table.now _ _ c.args.ops.now c.args.n c.args.h (omega arith) c.put_op_rows.ensures c.put_pad_rows.ensures
