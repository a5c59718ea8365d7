-- `op_list::put_operations` meets its contract: after i turns the words of i records are stored, and the next one starts
-- where the reader stands.
use Prim.Native.Nat.{ℕ, ◌*◌, ◌≤◌}
use mathlib.Core.Path.{◌≡◌}
use mathlib.Core.List.{List, []}
use lib.ListN.{get_or}
use Rattle.lists.specs.Tab.{cells_of}
use Rattle.lists.proofs.Laws.{Filled}
use Rattle.op_file.specs.File.{records_of, start_at, operation_words}
use Rattle.op_list.proofs.put_operations.Given as goal

-- the words of record i
abbrev pub Words : List ℕ → ℕ → List ℕ
Words file i = operation_words (get_or (records_of file) i [])

abbrev pub invariant-loop-i : goal.invariant-loop-i
invariant-loop-i l = (l.i ≤ l.n) × (l.from ≡ start_at (records_of l.file) l.i) × Filled l.initial.ops 0 (l.n * 53) (cells_of 53 (Words l.file)) l.ops (l.i * 53)
