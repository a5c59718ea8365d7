-- `bitwise_rows::generate_bitwise_row` meets its contract: one check after the other, then the row.
use mathlib.Core.Path.{◌∙◌}
use native.Mathlib.Omega.{arith}
use Rattle.std.proofs.lemmas.Bool.Decides.{nat_tests}
use Rattle.answer.specs.Refusal.{refuse_if, afterwards}
use Rattle.answer.proofs.Laws.{sets-overwrite}
use Rattle.bitwise.specs.Row.{row_of_xyz, bitwise_row, bitwise_row_refusal}
use Rattle.bitwise_rows.proofs.generate_bitwise_row.Goals as goal

pub returns-clause-words : goal.returns-clause-words
unfolding bitwise_row_refusal bitwise_row row_of_xyz refuse_if afterwards
returns-clause-words c =
    let e = c.put_row.ensures ∙ sets-overwrite c.args.row.now (bitwise_row c.args.index) (omega arith) in
    grind (arith, nat_tests)
