-- `write_line` meets its contract: the line of the verdict, and the copy of it.
use native.Mathlib.Omega.{arith}
use Rattle.verdict_line.proofs.Shows.{fits, answers-refused, answers-line}
use Rattle.verdict_line.proofs.write_line.Goals as goal

pub copy_line-requires : goal.copy_line-requires
copy_line-requires c =
    let p = c.put_line.ensures in
    fits _ _ _ c.args.line.now _ _ _ _ (p.answer, (p.bytes, p.most)) c.in-Ok.is (omega arith)

pub returns-in-Err-clause-answer : goal.returns-in-Err-clause-answer
returns-in-Err-clause-answer c =
    let p = c.put_line.ensures in
    (answers-refused _ _ _ c.args.line.now _ _ _ _ (p.answer, (p.bytes, p.most)) c.in-Err.is).0

pub returns-in-Err-clause-bytes : goal.returns-in-Err-clause-bytes
returns-in-Err-clause-bytes c =
    let p = c.put_line.ensures in
    (answers-refused _ _ _ c.args.line.now _ _ _ _ (p.answer, (p.bytes, p.most)) c.in-Err.is).1

pub returns-in-Ok-clause-answer : goal.returns-in-Ok-clause-answer
returns-in-Ok-clause-answer c =
    let p = c.put_line.ensures in
    let q = c.copy_line.ensures in
    (answers-line _ _ _ c.args.line.now _ _ _ _ (p.answer, (p.bytes, p.most)) c.in-Ok.is (omega arith) q.answer q.bytes).0

pub returns-in-Ok-clause-bytes : goal.returns-in-Ok-clause-bytes
returns-in-Ok-clause-bytes c =
    let p = c.put_line.ensures in
    let q = c.copy_line.ensures in
    (answers-line _ _ _ c.args.line.now _ _ _ _ (p.answer, (p.bytes, p.most)) c.in-Ok.is (omega arith) q.answer q.bytes).1
