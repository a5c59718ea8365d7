-- `tally_text::put_refused` meets its contract: a word and two numbers.
use native.Mathlib.Omega.{arith}
use Rattle.text.proofs.Laws.{puts-as}
use Rattle.tally_text.specs.Output.{refused-name, pair_line, text_of}
use Rattle.tally_text.proofs.put_refused.Goals as goal

pub returns : goal.returns
unfolding text_of
returns c =
    let p = c.put_pair.ensures in
    (puts-as p.0 (λ i. pair_line refused-name (c.number-number.ensures i) (c.detail-detail.ensures i)), omega (arith, p.1))
