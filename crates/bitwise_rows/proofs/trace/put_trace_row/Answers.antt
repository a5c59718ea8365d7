-- `bitwise_rows::trace::put_trace_row` meets its contract: the fixed words, then ten zeros.
use mathlib.Core.Path.{ap, ◌∙◌}
use mathlib.Core.List.{List}
use Prim.Native.Nat.{ℕ}
use lib.Seq.{sets}
use Rattle.lists.specs.Tab.{tab}
use Rattle.lists.proofs.Laws.{sets-append}
use Rattle.bitwise.specs.Row.{row_of_xyz, bitwise_row}
use Rattle.bitwise.specs.Table.{trace_row}
use Rattle.bitwise_rows.proofs.trace.put_trace_row.Goals as goal

pub returns : goal.returns
unfolding trace_row bitwise_row row_of_xyz
returns c =
    let a = c.args in
    c.put_zeros.ensures
    ∙ ap (λ (t : List ℕ). sets t 11 (tab 10 (λ k. 0))) c.put_row.ensures
    ∙ sets-append a.row.now 0 (bitwise_row a.i) (tab 10 (λ k. 0))
