-- `tally_text::put_sums` meets its contract: five parts, one after the other.
use native.Mathlib.Omega.{arith}
use Rattle.text.proofs.Laws.{puts_then}
use Rattle.tally_text.specs.Output.{text_of}
use Rattle.tally_text.proofs.put_sums.Goals as goal

pub returns : goal.returns
unfolding text_of
returns c =
    let a = c.put_heights-a.ensures in
    let b = c.put_lookups-b.ensures in
    let d = c.put_others-c.ensures in
    let f = c.put_segments-d.ensures in
    let e = c.put_unaligned.ensures in
    (puts_then (puts_then (puts_then (puts_then a.0 b.0) d.0) f.0) e.0, omega (arith, a.1, b.1, d.1, f.1, e.1))
