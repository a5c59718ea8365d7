-- `same_operations::is_next` meets its contract: whether there is one, then its cells.
use native.Mathlib.Omega.{arith}
use Rattle.same_operations.proofs.Scans.{stands-enough}
use Rattle.same_operations.proofs.Agree.{next-none, next-is}
use Rattle.same_operations.proofs.is_next.Goals as goal

pub returns-then-i-n : goal.returns-then-i-n
returns-then-i-n c = next-none _ _ _ c.if-i-n.true

pub overflow_add-from : goal.overflow_add-from
overflow_add-from c = let enough = stands-enough _ c.requires.2 (omega (arith, c.requires.1)) in omega arith

pub word_at-stamp-requires : goal.word_at-stamp-requires
word_at-stamp-requires c = let enough = stands-enough _ c.requires.2 (omega (arith, c.requires.1)) in omega arith

pub is_record-requires : goal.is_record-requires
is_record-requires c = (c.requires.0, stands-enough _ c.requires.2 (omega (arith, c.requires.1)), c.word_at-stamp.ensures)

pub returns : goal.returns
returns c = next-is _ _ _ c.if-i-n.false c.is_record.ensures
