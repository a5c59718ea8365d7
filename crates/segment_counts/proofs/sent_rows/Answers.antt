-- `segment_counts::sent_rows` meets its contract: the height, or none.
use mathlib.Core.Logic.{inl, inr}
use mathlib.Core.Path.{◌∙◌}
use native.Mathlib.Omega.{arith}
use Rattle.keccak_rnd.proofs.Rows.{few-rows}
use Rattle.segment_counts.proofs.Segments.{none-sent, all-sent}
use Rattle.segment_counts.proofs.sent_rows.Goals as goal

pub overflow_mul-n : goal.overflow_mul-n
overflow_mul-n c = omega (arith, few-rows c.args.nr c.args.n c.requires.0 c.requires.1)

pub table_height-requires : goal.table_height-requires
table_height-requires c = omega (arith, few-rows c.args.nr c.args.n c.requires.0 c.requires.1)

pub returns-then-shipped : goal.returns-then-shipped
returns-then-shipped c = c.table_height.ensures ∙ all-sent _ _ _ (inr c.if-shipped.true)

pub returns-then-n-eq0 : goal.returns-then-n-eq0
returns-then-n-eq0 c = none-sent _ _ _ c.if-n-eq0.true c.if-shipped.false

pub overflow_mul-n-2 : goal.overflow_mul-n-2
overflow_mul-n-2 c = omega (arith, few-rows c.args.nr c.args.n c.requires.0 c.requires.1)

pub table_height-requires-2 : goal.table_height-requires-2
table_height-requires-2 c = omega (arith, few-rows c.args.nr c.args.n c.requires.0 c.requires.1)

pub returns : goal.returns
returns c = c.table_height-2.ensures ∙ all-sent _ _ _ (inl c.if-n-eq0.false)
