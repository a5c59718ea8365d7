-- `templates::AddOperand::from_dword_bl` meets its contract: four bytes, and four more.
use mathlib.Core.Path.{◌∙◌}
use Rattle.templates.proofs.Made.{operand, bytes_next}
use Rattle.templates.proofs.AddOperand.from_dword_bl.Goals as goal

pub returns : goal.returns
returns c = operand c.bytes.ensures (c.bytes-2.ensures ∙ bytes_next _)
