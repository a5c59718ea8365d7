-- `keccak_state_tuples::put_state` meets its contract: after x turns the first x sheets are stored.
use Prim.Native.Nat.{ℕ, ◌*◌}
use Rattle.lists.specs.Tab.{word}
use Rattle.lists.proofs.Laws.{Filled}
use Rattle.keccak.specs.Columns.{by_xyb, lane_column}
use Rattle.keccak_state_tuples.proofs.put_state.Given as goal

abbrev pub invariant-loop-x : goal.invariant-loop-x
invariant-loop-x l = Filled l.initial.out l.at 200 (by_xyb (λ (u v w : ℕ). word l.row (lane_column l.base u v w))) l.out (40 * l.x)
