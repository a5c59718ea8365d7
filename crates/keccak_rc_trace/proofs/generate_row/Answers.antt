-- `keccak_rc_trace::generate_row` meets its contract: one check after the other, then the row.
use mathlib.Core.Path.{◌∙◌}
use native.Mathlib.Omega.{arith}
use Rattle.std.proofs.lemmas.Bool.Decides.{nat_tests}
use Rattle.answer.specs.Refusal.{refuse_if, afterwards}
use Rattle.answer.proofs.Laws.{sets-overwrite}
use Rattle.keccak_rc.specs.Row.{rc_row, rc_row_refusal}
use Rattle.keccak_rc.proofs.Found.{rc-length}
use Rattle.keccak_rc_trace.proofs.generate_row.Goals as goal

pub returns-clause-words : goal.returns-clause-words
unfolding rc_row_refusal refuse_if afterwards
returns-clause-words c =
    let e = c.put_row.ensures ∙ sets-overwrite c.args.out.now (rc_row c.args.round) (omega (arith, rc-length c.args.round)) in
    grind (arith, nat_tests)
