-- `templates::AddOperand::from_dword_whh` meets its contract: two halfwords and a word.
use Rattle.templates.proofs.Made.{operand}
use Rattle.templates.proofs.AddOperand.from_dword_whh.Goals as goal

pub returns : goal.returns
returns c = operand c.halves.ensures c.one.ensures
