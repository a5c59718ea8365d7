-- `registers::checks::in_use` meets its contract: the whole ledgers, or 16.
use Rattle.registers.proofs.Ledgers.{in-use-few, in-use-all}
use Rattle.registers.proofs.checks.in_use.Goals as goal

pub returns-then-words-lt-MAX_REGISTERS : goal.returns-then-words-lt-MAX_REGISTERS
returns-then-words-lt-MAX_REGISTERS c = in-use-few _ c.if-words-lt-MAX_REGISTERS.true

pub returns : goal.returns
returns c = in-use-all _ c.if-words-lt-MAX_REGISTERS.false
