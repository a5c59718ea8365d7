use mathlib.Core.Path.{sym}
use Prim.Native.Nat.{◌*◌}
use mathlib.Core.List.{[], ◌∷◌, ◌++◌}
use native.Mathlib.Nat.{zero-add}
use Rattle.lists.proofs.Laws.{filled_none, filled_row_lem, filled-rows}
use Rattle.keccak_rc.specs.Row.{rc_row}
use Rattle.keccak_rc.specs.Table.{rc_table}
use Rattle.keccak_rc.proofs.Table.{row-long}
use Rattle.keccak_rc_trace.proofs.put_table.Goals as goal

pub loop-round-init : goal.loop-round-init
loop-round-init c = filled_none _ _ _ _

pub loop-round-preserved : goal.loop-round-preserved
loop-round-preserved c =
    let r = c.loop-round.round in
    filled_row_lem 32 10 (λ r. rc_row r ++ (0 ∷ [])) r c.loop-round.invariant c.loop-round-test.true (row-long r 0) (sym (zero-add (r * 10))) c.put_table_row.ensures

pub returns : goal.returns
unfolding rc_table
returns c = filled-rows 32 10 (λ r. rc_row r ++ (0 ∷ [])) c.loop-round.round c.loop-round.invariant c.loop-round-test.false
