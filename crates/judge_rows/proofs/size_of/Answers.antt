-- `judge_rows::size_of` meets its contract, arm by arm.
use mathlib.Core.Path.{refl}
use Rattle.judge_scan.specs.Tables.{kind_of}
use Rattle.judge_rows.specs.Checks.{size_of}
use Rattle.judge_rows.proofs.Rows.{told-size}
use Rattle.judge_rows.proofs.size_of.Goals as goal

pub returns-in-Core : goal.returns-in-Core
unfolding size_of kind_of
returns-in-Core c = told-size c.in-Core.is c.in-Values.is _ (λ nr. refl)

pub returns-in-Round : goal.returns-in-Round
unfolding size_of kind_of
returns-in-Round c = told-size c.in-Round.is c.in-Values.is _ (λ nr. refl)

pub returns-in-Core-table : goal.returns-in-Core-table
unfolding size_of kind_of
returns-in-Core-table c = told-size c.in-Core-table.is c.in-Lookups.is _ (λ nr. refl)

pub returns-in-Round-table : goal.returns-in-Round-table
unfolding size_of kind_of
returns-in-Round-table c = told-size c.in-Round-table.is c.in-Lookups.is _ (λ nr. refl)
