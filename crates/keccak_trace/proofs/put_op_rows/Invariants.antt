-- `keccak_trace::put_op_rows` meets its contract: after i turns the rows of the first i operations are stored.
use Prim.Native.Nat.{◌*◌, ◌≤◌}
use Rattle.lists.specs.Tab.{cells_of}
use Rattle.keccak.specs.Row.{core_row, op_at}
use Rattle.lists.proofs.Laws.{Filled}
use Rattle.keccak_trace.proofs.put_op_rows.Given as goal

abbrev pub invariant-loop-i : goal.invariant-loop-i
invariant-loop-i l = (l.i ≤ l.n) × Filled l.initial.table 0 (l.n * 486) (cells_of 486 (λ j. core_row (op_at l.ops j))) l.table (l.i * 486)
