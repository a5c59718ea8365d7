-- `put_holds` meets its contract: a word and a number.
use native.Mathlib.Omega.{arith}
use Rattle.text.proofs.Laws.{puts-as}
use Rattle.text.proofs.Words.{joined-one, puts-joined}
use Rattle.verdict_line.specs.Line.{words_of}
use Rattle.verdict_line.proofs.put_holds.Goals as goal

pub returns : goal.returns
unfolding words_of
returns c =
    let p = c.put-end.ensures in
    let q = c.put_number.ensures in
    (puts-joined _ _ _ (puts-as p (joined-one _)) q.0, omega (arith, p.ends, q.1))
