-- `month::first_unbeaten` meets its contract: after i turns the best of the first i files (Unbeaten.antt).
use Rattle.month.proofs.first_unbeaten.Goals.{then-beats, else-beats}
use native.Mathlib.Omega.{arith}
use Rattle.month.proofs.Fullness.{run-start, run_take, run-keep, run-all}
use Rattle.month.proofs.first_unbeaten.Goals as goal

pub loop-i-init : goal.loop-i-init
loop-i-init c = (c.requires.1, run-start _ _ _ _)

pub offset_bounds-counts-best : goal.offset_bounds-counts-best
offset_bounds-counts-best c = omega (arith, c.loop-i.invariant.1.there)

pub bounds-counts-best : goal.bounds-counts-best
bounds-counts-best c = omega (arith, c.loop-i.invariant.1.there)

pub beats-requires : goal.beats-requires
beats-requires c =
    let p = c.requires.0 in
    (p.most-rounds, p.power, p.each _ c.loop-i-test.true, p.each _ (omega (arith, c.loop-i.invariant.1.there)))

pub loop-i-preserved : goal.loop-i-preserved
loop-i-preserved c =
    let r = c.loop-i.invariant.1 in
    let e = c.beats.ensures in
    (omega arith, elim c.if-beats.branch [ then-beats w ↦ run_take _ _ _ _ r e w.if-beats.true w.best-is | else-beats w ↦ run-keep _ _ _ _ r e w.if-beats.false w.best-is ])

pub returns : goal.returns
returns c = run-all _ _ _ _ c.loop-i.invariant.1 c.loop-i.invariant.0 c.loop-i-test.false
