-- `keccak_rnd_trace::put_rounds` meets its contract: after r turns r rows are stored, and the state is the one after r rounds.
use mathlib.Core.Path.{◌≡◌}
use Prim.Native.Nat.{◌-◌, ◌*◌}
use Rattle.lists.specs.Tab.{cells_of}
use Rattle.lists.proofs.Laws.{Filled}
use Rattle.fips202.specs.Lanes.{rounds_l}
use Rattle.keccak_rnd.specs.Parts.{row_after}
use Rattle.keccak_rnd_trace.proofs.put_rounds.Given as goal

abbrev pub invariant-loop-r : goal.invariant-loop-r
invariant-loop-r l =
    (l.state.lanes ≡ rounds_l (24 - l.nr) l.r l.initial.state.lanes)
    × Filled l.initial.table l.at (l.nr * 1480) (cells_of 1480 (row_after (24 - l.nr) l.timestamp l.initial.state.lanes)) l.table (l.r * 1480)
