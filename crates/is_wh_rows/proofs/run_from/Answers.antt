use Rattle.is_wh_rows.proofs.Scan.{run-start, run_small, run_more, run-stop, run-over}
use mathlib.Core.Path.{refl}
use native.Mathlib.Omega.{arith}
use Rattle.is_wh_rows.proofs.run_from.Goals as goal

pub loop-k-init : goal.loop-k-init
loop-k-init c = run-start _ _ c.requires.0 c.requires.1

pub returns-then-words-k : goal.returns-then-words-k
returns-then-words-k c = run-stop c.loop-k.invariant c.loop-k-test.true c.if-words-k.true

pub overflow_add-count-in-loop-k : goal.overflow_add-count-in-loop-k
overflow_add-count-in-loop-k c = omega (arith, run_small c.loop-k.invariant c.loop-k-test.true c.if-words-k.false c.requires.2)

pub loop-k-preserved : goal.loop-k-preserved
loop-k-preserved c = run_more c.loop-k.invariant c.loop-k-test.true c.if-words-k.false refl

pub returns : goal.returns
returns c = run-over c.loop-k.invariant c.loop-k-test.false
