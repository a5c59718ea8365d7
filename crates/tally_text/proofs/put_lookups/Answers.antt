-- `tally_text::put_lookups` meets its contract: four lines, one after the other.
use native.Mathlib.Omega.{arith}
use Rattle.text.proofs.Laws.{puts_then}
use Rattle.tally_text.specs.Output.{lookup_lines}
use Rattle.tally_text.proofs.put_lookups.Goals as goal

pub returns : goal.returns
unfolding lookup_lines
returns c =
    let e0 = c.put_line-e0.ensures in
    let e1 = c.put_line-e1.ensures in
    let e2 = c.put_line-e2.ensures in
    let e3 = c.put_line.ensures in
    (puts_then (puts_then (puts_then e0.0 e1.0) e2.0) e3.0, omega (arith, e0.1, e1.1, e2.1, e3.1))
