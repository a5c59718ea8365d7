-- `step::shift_tail` meets its contract: only the bytes behind the lanes come in.
use borrow.Author.Tests.{le-leb, lt-leb}
use Rattle.op_reader.proofs.step.shift_tail.Goals as goal

pub returns-then-at-lt-RECORD_BYTES : goal.returns-then-at-lt-RECORD_BYTES
returns-then-at-lt-RECORD_BYTES c = simp (lt-leb _ _ c.if-at-lt-RECORD_BYTES.true)

pub returns : goal.returns
returns c = simp (le-leb _ _ c.if-at-lt-RECORD_BYTES.false) c.shift_in.ensures
