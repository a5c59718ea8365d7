-- `record::mark_of` meets its contract: the second byte of either mark.
use mathlib.Core.Path.{sym, ap}
use Rattle.op_list.specs.Record.{mark_of}
use Rattle.op_list.proofs.record.mark_of.Goals as goal

pub returns-then-numbered : goal.returns-then-numbered
returns-then-numbered c = sym (ap mark_of c.if-numbered.true)

pub returns-else-numbered : goal.returns-else-numbered
returns-else-numbered c = sym (ap mark_of c.if-numbered.false)
