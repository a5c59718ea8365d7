-- `keccak_rnd_trace::put_op_rounds` meets its contract: after i turns the rows of the first i operations are stored.
use mathlib.Core.List.{List}
use Prim.Native.Nat.{ℕ, ◌*◌}
use Rattle.lists.specs.Tab.{table_of, cells_of}
use Rattle.lists.proofs.Laws.{Filled}
use Rattle.keccak.specs.Row.{op_at}
use Rattle.keccak_rnd.specs.Row.{op_row}
use Rattle.keccak_rnd_trace.proofs.put_op_rounds.Given as goal

-- the nr rows of operation i
abbrev pub block_of : ℕ → List ℕ → ℕ → List ℕ
block_of nr ops i = table_of nr 1480 (op_row nr (op_at ops i))

abbrev pub invariant-loop-i : goal.invariant-loop-i
invariant-loop-i l = Filled l.initial.table 0 (l.n * (l.nr * 1480)) (cells_of (l.nr * 1480) (block_of l.nr l.ops)) l.table (l.i * (l.nr * 1480))
