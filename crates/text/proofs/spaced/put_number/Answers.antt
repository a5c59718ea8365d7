-- `spaced::put_number` meets its contract: a space and the digits.
use mathlib.Core.Path.{◌∙◌}
use native.Mathlib.Omega.{arith}
use lib.ListN.{length-set}
use Rattle.text.proofs.Laws.{puts-as, puts_then, puts-byte, puts-long}
use Rattle.text.proofs.Words.{spaced-one}
use Rattle.text.proofs.spaced.put_number.Goals as goal

pub put_decimal-requires : goal.put_decimal-requires
put_decimal-requires c = simp length-set (omega arith)

pub shape_of-out : goal.shape_of-out
shape_of-out c = let a = c.args in puts-long c.put_decimal.ensures.0 ∙ length-set a.out.now a.at 32

pub returns : goal.returns
returns c = let p = c.put_decimal.ensures in (puts-as (puts_then (puts-byte _ _ 32) p.0) (spaced-one _), omega (arith, p.1))
