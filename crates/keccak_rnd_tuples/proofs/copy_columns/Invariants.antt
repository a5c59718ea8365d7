-- `keccak_rnd_tuples::copy_columns` meets its contract: after x turns the lanes of the first x columns are stored.
use Prim.Native.Nat.{◌+◌, ◌*◌}
use Rattle.lists.proofs.Laws.{Filled}
use Rattle.keccak.specs.Columns.{by_xyb}
use Rattle.keccak_rnd_tuples.specs.States.{column_word}
use Rattle.keccak_rnd_tuples.proofs.copy_columns.Given as goal

abbrev pub invariant-loop-x : goal.invariant-loop-x
invariant-loop-x l = Filled l.initial.out 43 160 (λ k. by_xyb (column_word l.row l.base) (40 + k)) l.out (l.x * 40)
