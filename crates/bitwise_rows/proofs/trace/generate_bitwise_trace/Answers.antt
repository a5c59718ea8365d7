-- `bitwise_rows::trace::generate_bitwise_trace` meets its contract: the check, then the table.
use mathlib.Core.Path.{◌∙◌}
use native.Mathlib.Omega.{arith}
use Rattle.std.proofs.lemmas.Bool.Decides.{nat_tests}
use Rattle.answer.specs.Refusal.{refuse_if, afterwards}
use Rattle.answer.proofs.Laws.{sets-overwrite}
use Rattle.bitwise.specs.Table.{bitwise_table, trace_refusal}
use Rattle.bitwise.proofs.Table.{length-bitwise_table}
use Rattle.bitwise_rows.proofs.trace.generate_bitwise_trace.Goals as goal

pub returns-clause-words : goal.returns-clause-words
unfolding trace_refusal refuse_if afterwards
returns-clause-words c =
    let e = c.put_table.ensures ∙ sets-overwrite c.args.table.now bitwise_table (omega (arith, length-bitwise_table)) in
    grind (arith, nat_tests)
