-- `keccak_rc_trace::put_table` meets its contract: after r turns the rows below r are stored.
use Prim.Native.Nat.{◌*◌}
use mathlib.Core.List.{[], ◌∷◌, ◌++◌}
use Rattle.lists.specs.Tab.{cells_of}
use Rattle.lists.proofs.Laws.{Filled}
use Rattle.keccak_rc.specs.Row.{rc_row}
use Rattle.keccak_rc_trace.proofs.put_table.Given as goal

abbrev pub invariant-loop-round : goal.invariant-loop-round
invariant-loop-round l = Filled l.initial.table 0 320 (cells_of 10 (λ r. rc_row r ++ (0 ∷ []))) l.table (l.round * 10)
