use mathlib.Core.Path.{sym, ◌∙◌}
use mathlib.Core.Logic.{⊎_elim}
use native.Mathlib.Omega.{arith}
use Rattle.same_operations.proofs.Scans.{left-all, left-more, left-skip, left_over, left-enough, stands-long, stands-enough, stands-next, held-record, words-turn}
use Rattle.same_operations.proofs.scan.has_more_records.Goals as goal

pub loop-k-init : goal.loop-k-init
loop-k-init c = (omega (arith, c.requires.1, c.requires.2.there), c.requires.2, left-all _ _ _)

pub overflow_add-at : goal.overflow_add-at
overflow_add-at c = let inside = stands-enough _ c.loop-k.invariant.1 (omega (arith, c.requires.1)) in omega arith

pub word_at-stamp-requires : goal.word_at-stamp-requires
word_at-stamp-requires c = let inside = stands-enough _ c.loop-k.invariant.1 (omega (arith, c.requires.1)) in omega arith

pub is_record-requires : goal.is_record-requires
is_record-requires c = (c.requires.0, stands-enough _ c.loop-k.invariant.1 (omega (arith, c.requires.1)), c.word_at-stamp.ensures)

pub returns-then-left-eq0 : goal.returns-then-left-eq0
returns-then-left-eq0 c =
    let held = held-record _ c.loop-k.invariant.1 (omega (arith, c.requires.1)) _ (c.is_record.ensures ∙ words-turn _ _) in
    left_over c.loop-k.invariant.2 _ c.loop-k.auto.k c.loop-k-test.true c.if-left-eq0.true (sym held ∙ c.if-is_record.true)

pub next_start-at-requires : goal.next_start-at-requires
next_start-at-requires c = stands-long _ c.loop-k.invariant.1 (omega (arith, c.requires.1))

pub loop-k-preserved : goal.loop-k-preserved
loop-k-preserved c =
    let h = c.loop-k.invariant.2 in
    let e = sym (held-record _ c.loop-k.invariant.1 (omega (arith, c.requires.1)) _ (c.is_record.ensures ∙ words-turn _ _)) in (
      omega arith,
      stands-next _ c.loop-k.invariant.1 (omega (arith, c.requires.1)) c.next_start-at.ensures,
      ⊎_elim (λ w. left-more h w.left-is w.if-left-eq0.false (e ∙ w.if-is_record.true)) (λ w. left-skip h w.left-is (e ∙ w.if-is_record.false)) c.if-is_record.branch-raw,
    )

pub returns : goal.returns
returns c = left-enough c.loop-k.invariant.2 _ (omega (arith, c.requires.1, c.requires.2.there)) c.loop-k.invariant.0 c.loop-k-test.false
