-- `emit_is_bit` meets its contract: the template on the column's word.
use mathlib.Core.Path.{◌∙◌}
use Rattle.add_template.proofs.Conditions.{under-is}
use Rattle.add_template.proofs.bit.emit_is_bit.Goals as goal

pub returns : goal.returns
returns c = c.bit_under.ensures ∙ under-is c.args.row.now c.args.column c.args.cond c.requires.2
