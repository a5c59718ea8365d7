-- `spaced::put_word` meets its contract: a space and the bytes.
use mathlib.Core.Path.{◌∙◌}
use native.Mathlib.Omega.{arith}
use lib.ListN.{length-set}
use Rattle.text.proofs.Laws.{puts-as, puts_then, puts-byte, puts-long}
use Rattle.text.proofs.Words.{spaced-one}
use Rattle.text.proofs.spaced.put_word.Goals as goal

pub shape_of-out : goal.shape_of-out
shape_of-out c = let a = c.args in puts-long c.put.ensures ∙ length-set a.out.now a.at 32

pub returns : goal.returns
returns c = let p = c.put.ensures in (puts-as (puts_then (puts-byte _ _ 32) p) (spaced-one _), omega (arith, p.ends))
