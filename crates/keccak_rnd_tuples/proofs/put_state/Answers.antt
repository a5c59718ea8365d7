-- `keccak_rnd_tuples::put_state` meets its contract: lane (0, 0), the other lanes of x = 0, the rest.
use mathlib.Core.Path.{refl}
use Prim.Native.Nat.{◌+◌}
use native.Mathlib.Omega.{arith}
use Rattle.lists.proofs.Laws.{filled_none, filled-add, filled-all}
use Rattle.keccak.specs.Columns.{by_xyb}
use Rattle.keccak_rnd_tuples.specs.States.{state_word}
use Rattle.keccak_rnd_tuples.proofs.States.{state-first, state-zero, state-other}
use Rattle.keccak_rnd_tuples.proofs.put_state.Goals as goal

pub returns : goal.returns
returns c =
    let a = c.args in
    let row = a.row.now in
    let one = filled-add 8 _ (filled_none a.out.now 3 200 (by_xyb (state_word row a.first a.base))) refl (omega arith) c.put_part.ensures (state-first row a.first a.base) in
    let five = filled-add 32 _ one refl (omega arith) c.copy_lanes.ensures (state-zero row a.first a.base) in
    let all = filled-add {k' = 200} 160 _ five refl (omega arith) c.copy_columns.ensures (λ j h. state-other row a.first a.base (40 + j) (omega arith)) in
    filled-all all (omega arith)
