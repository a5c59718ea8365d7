-- `tally_text::put_tally` meets its contract: the two cases.
use mathlib.Core.Path.{sym, ap}
use Rattle.text.proofs.Laws.{puts-as}
use Rattle.tally_text.specs.Output.{text_of}
use Rattle.tally_text.proofs.put_tally.Goals as goal

pub returns-in-Ok : goal.returns-in-Ok
returns-in-Ok c = (puts-as c.put_sums.ensures.0 (sym (ap text_of c.in-Ok.is)), c.put_sums.ensures.1)

pub returns-in-Err : goal.returns-in-Err
returns-in-Err c = (puts-as c.put_refused.ensures.0 (sym (ap text_of c.in-Err.is)), c.put_refused.ensures.1)
