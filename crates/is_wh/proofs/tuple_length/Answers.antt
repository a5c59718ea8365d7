-- `is_wh::tuple_length` meets its contract: only the last tuple has two values.
use Rattle.is_wh.proofs.Tuples.{one_value, two-values}
use Rattle.is_wh.proofs.tuple_length.Goals as goal

pub returns-then-index-lt4 : goal.returns-then-index-lt4
returns-then-index-lt4 c = λ row. one_value row _ c.if-index-lt4.true

pub returns-else-index-lt4 : goal.returns-else-index-lt4
returns-else-index-lt4 c = λ row. two-values row _ c.if-index-lt4.false
