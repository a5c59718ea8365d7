-- `step::records_read` meets its contract: a sum that is known where it is none too large.
use Rattle.op_file.proofs.Laws.{count-is, count-far}
use native.Mathlib.Omega.{arith}
use Rattle.op_reader.proofs.step.records_read.Goals as goal

pub returns-then-w-gt-MAX_FILE_BYTES : goal.returns-then-w-gt-MAX_FILE_BYTES
returns-then-w-gt-MAX_FILE_BYTES c = let w = c.args.w in let e = count-far w c.if-w-gt-MAX_FILE_BYTES.true in (omega arith, λ l. omega arith)

pub returns-then-w-gt-MAX_OPS : goal.returns-then-w-gt-MAX_OPS
returns-then-w-gt-MAX_OPS c = let w = c.args.w in let e = count-is w c.if-w-gt-MAX_FILE_BYTES.false in (omega arith, λ l. omega arith)

pub returns-then-w-gt-MAX_OPS-2 : goal.returns-then-w-gt-MAX_OPS-2
returns-then-w-gt-MAX_OPS-2 c = let w = c.args.w in let e = count-is w c.if-w-gt-MAX_FILE_BYTES.false in (omega arith, λ l. omega arith)

pub returns : goal.returns
returns c = let w = c.args.w in let e = count-is w c.if-w-gt-MAX_FILE_BYTES.false in (omega arith, λ l. omega arith)
