-- `text::put_line` meets its contract: the name, the number, a line end.
use Rattle.text.proofs.Laws.{puts_then, puts-byte, puts-long}
use Rattle.text.specs.Text.{named_number}
use lib.ListN.{length-set}
use native.Mathlib.Omega.{arith}
use mathlib.Core.Path.{◌∙◌}
use Rattle.text.proofs.put_line.Goals as goal

pub shape_of-out : goal.shape_of-out
shape_of-out c =
    let p = c.put-a.ensures in
    let q = c.put_decimal-b.ensures.0 in
    length-set c.put_decimal-b.new.out c.put_decimal-b.result _ ∙ puts-long q ∙ puts-long p

pub returns : goal.returns
unfolding named_number
returns c =
    let p = c.put-a.ensures in
    let q = c.put_decimal-b.ensures in
    (puts_then (puts_then p q.0) (puts-byte _ _ 10), omega (arith, q.1, p.ends))
