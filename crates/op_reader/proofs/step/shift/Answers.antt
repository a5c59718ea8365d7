-- `step::shift` meets its contract: only the address bytes come in.
use Rattle.op_file.specs.Reader.{in_address}
use borrow.Author.Tests.{le-leb, lt-leb, lt-ltb, le-ltb}
use Rattle.op_reader.proofs.step.shift.Goals as goal

pub returns-then-at-lt10 : goal.returns-then-at-lt10
unfolding in_address
returns-then-at-lt10 c = simp (lt-leb _ _ c.if-at-lt10.true)

pub returns-then-at-ge18 : goal.returns-then-at-ge18
unfolding in_address
returns-then-at-ge18 c = simp (le-leb _ _ c.if-at-lt10.false, le-ltb _ _ c.if-at-ge18.true)

pub returns : goal.returns
unfolding in_address
returns c = simp (le-leb _ _ c.if-at-lt10.false, lt-ltb _ _ c.if-at-ge18.false) c.shift_in.ensures
