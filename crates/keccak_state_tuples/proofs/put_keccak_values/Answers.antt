-- `keccak_state_tuples::put_keccak_values` meets its contract: three words, then the state.
use mathlib.Core.Path.{◌≡◌, sym, ◌∙◌}
use native.Mathlib.Omega.{arith}
use lib.ListN.{length, length-set}
use Rattle.answer.proofs.Laws.{sets-overwrite}
use Rattle.lists.specs.Tab.{word}
use Rattle.keccak.specs.Columns.{lane_column}
use Rattle.keccak.specs.Tuples.{keccak_values}
use Rattle.keccak.proofs.Reading.{keccak-length}
use Rattle.keccak_state_tuples.proofs.Parts.{keccak-stored}
use Rattle.keccak_state_tuples.proofs.put_keccak_values.Goals as goal

pub bounds-out-1 : goal.bounds-out-1
bounds-out-1 c = simp length-set (omega arith)

pub bounds-out-2 : goal.bounds-out-2
bounds-out-2 c = simp length-set (omega arith)

pub returns : goal.returns
returns c =
    let a = c.args in
    let row = a.row.now in
    let values = keccak_values (word row 0) (word row 1) a.round (λ x y b. word row (lane_column a.base x y b)) in
    let e : 203 ≡ length values = sym (keccak-length _ _ _ _) in
    keccak-stored a.out.now (word row 0) (word row 1) a.round (λ x y b. word row (lane_column a.base x y b)) c.put_state.ensures
    ∙ sets-overwrite a.out.now values (omega (arith, c.requires.0, e))
