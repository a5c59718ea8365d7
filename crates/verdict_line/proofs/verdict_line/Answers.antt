-- `verdict_line` meets its contract: the verdict, and its line.
use Rattle.verdict_line.proofs.Shows.{same_line}
use Rattle.verdict_line.proofs.verdict_line.Goals as goal

pub returns : goal.returns
returns c =
    let e = c.write_line.ensures in
    let t = same_line _ _ _ c.args.line.now c.verdict-judged.ensures (e.answer, e.bytes) in
    record { answer = t.0; bytes = t.1 }
