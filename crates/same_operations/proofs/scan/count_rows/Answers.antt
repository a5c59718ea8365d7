use mathlib.Core.Path.{sym, ◌∙◌}
use mathlib.Core.Logic.{⊎_elim}
use native.Mathlib.Omega.{arith}
use Rattle.same_operations.proofs.Scans.{counted_none, counted-more, counted_skip, counted-le, counted_is}
use Rattle.same_operations.proofs.scan.count_rows.Goals as goal

pub loop-q-init : goal.loop-q-init
loop-q-init c = (omega arith, omega arith, counted_none _ _)

pub has_row-requires : goal.has_row-requires
has_row-requires c = (c.requires.1, omega (arith, c.requires.1, c.loop-q-test.true))

pub overflow_add-n : goal.overflow_add-n
overflow_add-n c = omega (arith, counted-le c.loop-q.invariant.2)

pub loop-q-preserved : goal.loop-q-preserved
loop-q-preserved c =
    let h = c.loop-q.invariant.2 in
    let e = sym c.has_row.ensures in
    (omega arith, omega arith, ⊎_elim (λ w. counted-more h w.n-is (e ∙ w.if-has_row.true)) (λ w. counted_skip h w.n-is (e ∙ w.if-has_row.false)) c.if-has_row.branch-raw)

pub returns : goal.returns
returns c = counted_is c.loop-q.invariant.2 _ c.requires.0 c.loop-q.invariant.1 c.loop-q-test.false
