use mathlib.Core.Path.{sym, subst, ◌∙◌}
use mathlib.Core.Logic.{⊎_elim}
use Prim.Native.Nat.{ℕ}
use native.Mathlib.Omega.{arith}
use Rattle.judge_scan.specs.Tables.{layout_of}
use Rattle.same_operations.specs.Passed.{Agreed}
use Rattle.same_operations.proofs.Scans.{stands-long}
use Rattle.same_operations.proofs.Agree.{next-there, passed, agreed-none, agreed-more, agreed-skip}
use Rattle.same_operations.proofs.pass.Goals as goal

pub loop-r-init : goal.loop-r-init
loop-r-init c = agreed-none _ _ c.requires.0

pub is_active-requires : goal.is_active-requires
unfolding layout_of
is_active-requires c = c.loop-r-test.true

pub is_next-requires : goal.is_next-requires
is_next-requires c = (c.loop-r-test.true, c.requires.1, c.loop-r.invariant.stands)

-- the next record is there
pub next_start-bytes-requires : goal.next_start-bytes-requires
next_start-bytes-requires c =
    let q = next-there c.loop-r.records c.args.n _ c.is_next.ensures c.if-not-is_next.false in
    stands-long _ c.loop-r.invariant.stands (omega (arith, c.requires.1, q.0))

pub overflow_add-records : goal.overflow_add-records
overflow_add-records c = let q = next-there c.loop-r.records c.args.n _ c.is_next.ensures c.if-not-is_next.false in omega arith

pub loop-r-preserved : goal.loop-r-preserved
unfolding layout_of
loop-r-preserved c =
    let a = sym c.is_active.ensures in
    ⊎_elim
    (λ w. agreed-more _ _ c.loop-r.invariant c.loop-r-test.true (a ∙ w.if-is_active.true) c.requires.1 w.is_next.ensures w.if-not-is_next.false w.records-is (w.bytes-is ∙ w.next_start-bytes.ensures))
    (λ w. agreed-skip _ _ c.loop-r.invariant c.loop-r-test.true (a ∙ w.if-is_active.false) w.records-is w.bytes-is)
    c.if-is_active.branch-raw

pub returns-then-not-is_next : goal.returns-then-not-is_next
returns-then-not-is_next c = c.loop-r.invariant

pub returns : goal.returns
returns c = subst (λ (r : ℕ). Agreed c.args.core.now c.args.file.now (passed c.loop-r.records c.loop-r.bytes r)) (omega arith) c.loop-r.invariant
