-- `words::put_table` meets its contract: one table, then the other.
use mathlib.Core.Path.{sym, ap, ◌∙◌}
use mathlib.Core.List.{[], ◌∷◌}
use native.Mathlib.Omega.{arith}
use Rattle.text.specs.Text.{joined}
use Rattle.text.proofs.Laws.{puts-as}
use Rattle.text.proofs.Words.{joined-one}
use Rattle.verdict.specs.declared.Table.{Table}
use Rattle.verdict_line.specs.Line.{table_name}
use Rattle.verdict_line.proofs.words.put_table.Goals as goal

pub returns-in-Core : goal.returns-in-Core
returns-in-Core c = let p = c.put.ensures in (puts-as p (joined-one _ ∙ sym (ap (λ (t : Table). joined (table_name t ∷ [])) c.in-Core.is)), omega (arith, p.ends))

pub returns-in-Round : goal.returns-in-Round
returns-in-Round c = let p = c.put-in-Round.ensures in (puts-as p (joined-one _ ∙ sym (ap (λ (t : Table). joined (table_name t ∷ [])) c.in-Round.is)), omega (arith, p.ends))
