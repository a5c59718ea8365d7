-- `words::put_place` meets its contract: five words, one after the other.
use native.Mathlib.Omega.{arith}
use Rattle.text.proofs.Words.{puts-joined}
use Rattle.verdict_line.specs.Line.{place_words}
use Rattle.verdict_line.proofs.words.put_place.Goals as goal

pub returns : goal.returns
unfolding place_words
returns c =
    let a = c.put_table-e0.ensures in
    let b = c.put_word-e1.ensures in
    let d = c.put_number-e2.ensures in
    let e = c.put_word-e3.ensures in
    let f = c.put_number.ensures in
    (puts-joined _ _ _ (puts-joined _ _ _ (puts-joined _ _ _ (puts-joined _ _ _ a.0 b.0) d.0) e.0) f.0, omega (arith, a.1, b.1, d.1, e.1, f.1))
