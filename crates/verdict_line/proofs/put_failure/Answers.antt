-- `put_failure` meets its contract: the place, then the tuple.
use native.Mathlib.Omega.{arith}
use Rattle.text.proofs.Words.{puts-joined}
use Rattle.verdict_line.specs.Line.{place_words}
use Rattle.verdict_line.proofs.put_failure.Goals as goal

pub returns : goal.returns
unfolding place_words
returns c = let p = c.put_place-end.ensures in let q = c.put_shown.ensures in (puts-joined _ _ _ p.0 q.0, omega (arith, p.1, q.1))
