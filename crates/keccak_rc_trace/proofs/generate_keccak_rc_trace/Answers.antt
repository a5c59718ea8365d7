-- `keccak_rc_trace::generate_keccak_rc_trace` meets its contract: the check, then the table.
use mathlib.Core.Path.{◌∙◌}
use native.Mathlib.Omega.{arith}
use Rattle.std.proofs.lemmas.Bool.Decides.{nat_tests}
use Rattle.answer.specs.Refusal.{refuse_if, afterwards}
use Rattle.answer.proofs.Laws.{sets-overwrite}
use Rattle.keccak_rc.specs.Table.{rc_table, rc_trace_refusal}
use Rattle.keccak_rc.proofs.Table.{length-rc_table}
use Rattle.keccak_rc_trace.proofs.generate_keccak_rc_trace.Goals as goal

pub returns-clause-words : goal.returns-clause-words
unfolding rc_trace_refusal refuse_if afterwards
returns-clause-words c =
    let e = c.put_table.ensures ∙ sets-overwrite c.args.table.now rc_table (omega (arith, length-rc_table)) in
    grind (arith, nat_tests)
