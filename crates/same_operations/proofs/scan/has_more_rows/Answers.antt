use mathlib.Core.Path.{sym, ◌∙◌}
use mathlib.Core.Logic.{⊎_elim}
use native.Mathlib.Omega.{arith}
use Rattle.same_operations.proofs.Scans.{left-all, left-more, left-skip, left_over, left-enough}
use Rattle.same_operations.proofs.scan.has_more_rows.Goals as goal

pub loop-r-init : goal.loop-r-init
loop-r-init c = (omega arith, omega arith, left-all _ _ _)

pub has_record-requires : goal.has_record-requires
has_record-requires c = (c.loop-r-test.true, c.requires.1, c.word_at-stamp.ensures)

pub returns-then-left-eq0 : goal.returns-then-left-eq0
returns-then-left-eq0 c = left_over c.loop-r.invariant.2 _ c.loop-r.invariant.0 c.loop-r-test.true c.if-left-eq0.true (sym c.has_record.ensures ∙ c.if-has_record.true)

pub loop-r-preserved : goal.loop-r-preserved
loop-r-preserved c =
    let h = c.loop-r.invariant.2 in
    let e = sym c.has_record.ensures in
    (omega arith, omega arith, ⊎_elim (λ w. left-more h w.left-is w.if-left-eq0.false (e ∙ w.if-has_record.true)) (λ w. left-skip h w.left-is (e ∙ w.if-has_record.false)) c.if-has_record.branch-raw)

pub returns : goal.returns
returns c = left-enough c.loop-r.invariant.2 _ c.requires.0 c.loop-r.invariant.1 c.loop-r-test.false
