-- `judge_rows::put_words` meets its contract, arm by arm.
use native.Mathlib.Omega.{arith}
use Rattle.verdict.specs.CoreAndRound.{core_kind, round_kind}
use Rattle.judge_scan.specs.Tables.{kind_of, layout_of}
use Rattle.judge_rows.proofs.Rows.{row_of, told-words, tells-values, tells-marked}
use Rattle.judge_rows.proofs.put_words.Goals as goal

pub put_core_values-requires : goal.put_core_values-requires
unfolding layout_of
put_core_values-requires c = (row_of c.in-Core.is _ c.requires.0, omega (arith, c.requires.1))

pub put_round_values-requires : goal.put_round_values-requires
unfolding layout_of
put_round_values-requires c = (row_of c.in-Round.is _ c.requires.0, omega (arith, c.requires.1))

pub put_core_lookups-requires : goal.put_core_lookups-requires
unfolding layout_of
put_core_lookups-requires c = ((row_of c.in-Core-table.is _ c.requires.0).long, omega (arith, c.requires.1))

pub put_round_lookups-requires : goal.put_round_lookups-requires
unfolding layout_of
put_round_lookups-requires c = (row_of c.in-Round-table.is _ c.requires.0, omega (arith, c.requires.1))

pub returns-in-Core : goal.returns-in-Core
unfolding kind_of
returns-in-Core c =
    told-words c.in-Core.is c.in-Values.is _ _ _
    (λ nr. tells-values (core_kind nr) _ _ _ (omega (arith, c.requires.1)) c.put_core_values.ensures)

pub returns-in-Round : goal.returns-in-Round
unfolding kind_of
returns-in-Round c =
    told-words c.in-Round.is c.in-Values.is _ _ _
    (λ nr. tells-values round_kind _ _ _ (omega (arith, c.requires.1)) c.put_round_values.ensures)

pub returns-in-Core-table : goal.returns-in-Core-table
unfolding kind_of
returns-in-Core-table c =
    told-words c.in-Core-table.is c.in-Lookups.is _ _ _
    (λ nr. tells-marked (core_kind nr) _ _ _ (c.put_core_lookups.ensures nr))

pub returns-in-Round-table : goal.returns-in-Round-table
unfolding kind_of
returns-in-Round-table c =
    told-words c.in-Round-table.is c.in-Lookups.is _ _ _
    (λ nr. tells-marked round_kind _ _ _ c.put_round_lookups.ensures)
