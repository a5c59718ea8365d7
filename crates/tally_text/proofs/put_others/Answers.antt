-- `tally_text::put_others` meets its contract: three lines, one after the other.
use native.Mathlib.Omega.{arith}
use Rattle.text.proofs.Laws.{puts_then}
use Rattle.tally_text.specs.Output.{other_lines}
use Rattle.tally_text.proofs.put_others.Goals as goal

pub returns : goal.returns
unfolding other_lines
returns c =
    let e0 = c.put_line-e0.ensures in
    let e1 = c.put_line-e1.ensures in
    let e2 = c.put_line.ensures in
    (puts_then (puts_then e0.0 e1.0) e2.0, omega (arith, e0.1, e1.1, e2.1))
