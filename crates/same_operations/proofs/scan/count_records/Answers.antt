use mathlib.Core.Path.{sym, ◌∙◌}
use mathlib.Core.Logic.{⊎_elim}
use native.Mathlib.Omega.{arith}
use Rattle.same_operations.proofs.Scans.{counted_none, counted-more, counted_skip, counted-le, counted_is, stands-long, stands-enough, stands-next, held-record}
use Rattle.same_operations.proofs.scan.count_records.Goals as goal

pub loop-k-init : goal.loop-k-init
loop-k-init c = (omega arith, omega arith, c.requires.0, counted_none _ _)

pub same_record-requires : goal.same_record-requires
same_record-requires c = (c.requires.3, stands-enough _ c.loop-k.invariant.2 (omega arith))

pub overflow_add-n : goal.overflow_add-n
overflow_add-n c = omega (arith, counted-le c.loop-k.invariant.3)

pub next_start-at-requires : goal.next_start-at-requires
next_start-at-requires c = stands-long _ c.loop-k.invariant.2 (omega arith)

pub loop-k-preserved : goal.loop-k-preserved
loop-k-preserved c =
    let h = c.loop-k.invariant.3 in
    let s = c.loop-k.invariant.2 in
    let e = sym (held-record _ s (omega arith) _ c.same_record.ensures) in
    (omega arith, omega arith, stands-next _ s (omega arith) c.next_start-at.ensures, ⊎_elim (λ w. counted-more h w.n-is (e ∙ w.if-same_record.true)) (λ w. counted_skip h w.n-is (e ∙ w.if-same_record.false)) c.if-same_record.branch-raw)

pub returns : goal.returns
returns c = counted_is c.loop-k.invariant.3 _ c.requires.1 c.loop-k.invariant.1 c.loop-k-test.false
