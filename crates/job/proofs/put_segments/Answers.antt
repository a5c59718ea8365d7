use mathlib.Core.Path.{refl, ◌∙◌}
use native.Mathlib.Omega.{arith}
use Rattle.judge_scan.specs.Tables.{layout_of}
use Rattle.job.proofs.Turns.{passed_none, core-read, round-read, core-there, round-there, turn-checked, passed-more, passed-all}
use Rattle.job.proofs.put_segments.Goals as goal

pub loop-i-init : goal.loop-i-init
loop-i-init c = (passed_none _ _ _ _ _, refl, refl)

pub rows_from-x-requires : goal.rows_from-x-requires
rows_from-x-requires c = core-there _ _ _ _ _ c.requires.2 c.loop-i.invariant.0 c.loop-i-test.true (core-read _ _) (round-read _ _)

pub rows_from-y-requires : goal.rows_from-y-requires
rows_from-y-requires c = round-there _ _ _ _ _ c.requires.2 c.loop-i.invariant.0 c.loop-i-test.true (core-read _ _) (round-read _ _)

pub put_verdict-requires : goal.put_verdict-requires
put_verdict-requires c = (
  c.requires.0,
  turn-checked _ _ _ _ _ c.requires.2 c.loop-i.invariant.0 c.loop-i-test.true (core-read _ _) (round-read _ _) c.requires.1
      c.rows_from-x.ensures c.rows_from-y.ensures,
  omega (arith, c.loop-i.invariant.0.filled.long),
)

pub overflow_add-a : goal.overflow_add-a
unfolding layout_of
overflow_add-a c =
    let h = core-there _ _ _ _ _ c.requires.2 c.loop-i.invariant.0 c.loop-i-test.true (core-read _ _) (round-read _ _) in omega arith

pub overflow_add-b : goal.overflow_add-b
unfolding layout_of
overflow_add-b c =
    let h = round-there _ _ _ _ _ c.requires.2 c.loop-i.invariant.0 c.loop-i-test.true (core-read _ _) (round-read _ _) in omega arith

pub loop-i-preserved : goal.loop-i-preserved
loop-i-preserved c = (
  passed-more _ _ _ _ _ c.requires.2 c.loop-i.invariant.0 c.loop-i-test.true (core-read _ _) (round-read _ _)
      c.rows_from-x.ensures c.rows_from-y.ensures c.put_verdict.ensures,
  c.put_verdict.auto.scratch ∙ c.loop-i.invariant.1,
  c.put_verdict.auto.spare ∙ c.loop-i.invariant.2,
)

pub shape_of-report : goal.shape_of-report
shape_of-report c = c.loop-i.invariant.0.filled.long

pub shape_of-scratch : goal.shape_of-scratch
shape_of-scratch c = c.loop-i.invariant.1

pub shape_of-spare : goal.shape_of-spare
shape_of-spare c = c.loop-i.invariant.2

pub returns : goal.returns
returns c = passed-all _ _ _ _ _ c.loop-i.invariant.0 c.loop-i-test.false
