-- `keccak_rc_trace::put_table_row` meets its contract: the fixed words, then MU.
use mathlib.Core.Path.{sym, ap, ◌∙◌}
use Prim.Native.Nat.{ℕ, ◌+◌}
use mathlib.Core.List.{List, [], ◌∷◌}
use lib.ListN.{set}
use lib.Seq.{sets}
use Rattle.lists.proofs.Laws.{sets-append}
use Rattle.keccak_rc.specs.Row.{rc_row}
use Rattle.keccak_rc.proofs.Found.{rc-length}
use Rattle.keccak_rc_trace.proofs.put_table_row.Goals as goal

pub returns : goal.returns
returns c =
    let a = c.args in
    ap (λ (t : List ℕ). set t (a.at + 9) 0) c.put_row.ensures
    ∙ ap (λ (k : ℕ). set (sets a.table.now a.at (rc_row a.round)) (a.at + k) 0) (sym (rc-length a.round))
    ∙ sets-append a.table.now a.at (rc_row a.round) (0 ∷ [])
