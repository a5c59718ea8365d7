-- `keccak_trace::put_pad_rows` meets its contract: after i turns i padding rows are stored.
use Prim.Native.Nat.{◌*◌, ◌≤◌}
use Rattle.lists.specs.Tab.{cells_of}
use Rattle.keccak.specs.Row.{core_pad}
use Rattle.lists.proofs.Laws.{Filled}
use Rattle.keccak_trace.proofs.put_pad_rows.Given as goal

abbrev pub invariant-loop-i : goal.invariant-loop-i
invariant-loop-i l = (l.i ≤ l.m) × Filled l.initial.table l.at (l.m * 486) (cells_of 486 (λ j. core_pad)) l.table (l.i * 486)
