-- `keccak_rnd_tuples::constant` meets its contract: ROUND, then the eight bytes.
use mathlib.Core.Path.{sym, ◌∙◌}
use mathlib.Core.List.{◌∷◌}
use native.Mathlib.Omega.{arith}
use Rattle.lists.specs.Tab.{tab}
use Rattle.answer.proofs.Laws.{sets-overwrite}
use Rattle.keccak_rnd_tuples.proofs.Tuples.{rc-length, rc-interaction}
use Rattle.keccak_rnd_tuples.proofs.constant.Goals as goal

pub returns : goal.returns
returns c =
    let a = c.args in
    let long = rc-length a.row.now in
    record { answer = sym (rc-interaction a.row.now); words = c.put_part.ensures ∙ sets-overwrite a.out.now (_ ∷ tab 8 _) (omega (arith, long, c.requires.1)) }
