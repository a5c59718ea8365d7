-- `tally_text::put_pair` meets its contract: a name and two numbers.
use native.Mathlib.Omega.{arith}
use Rattle.text.proofs.Laws.{puts_then}
use Rattle.tally_text.specs.Output.{pair_line}
use Rattle.tally_text.proofs.put_pair.Goals as goal

pub returns : goal.returns
unfolding pair_line
returns c =
    let p = c.put-e0.ensures in
    (puts_then (puts_then p c.put_decimal-e1.ensures.0) c.put_line.ensures.0, omega (arith, p.ends, c.put_decimal-e1.ensures.1, c.put_line.ensures.1))
