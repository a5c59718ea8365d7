use native.Mathlib.Omega.{arith}
use Rattle.judge_within.proofs.Steps.{repeated-start, repeated-turn, repeated-at, repeated-none}
use Rattle.judge_within.proofs.Repeats.{place-row}
use Rattle.judge_within.proofs.walks.first_repeated.Goals as goal

pub loop-k-init : goal.loop-k-init
loop-k-init c = repeated-start c.requires.0 _ c.requires.1 _ c.requires.2

pub same_stamps-repeats-requires : goal.same_stamps-repeats-requires
same_stamps-repeats-requires c =
    let h = place-row c.requires.0 c.args.core.now c.requires.1 c.args.places.now c.requires.2 in
    (h _ (omega arith), h _ (omega arith))

pub loop-k-preserved : goal.loop-k-preserved
loop-k-preserved c =
    repeated-turn c.requires.0 _ c.requires.1 _ c.requires.2 _ _ _ _ c.loop-k.invariant c.loop-k.auto.k (omega arith) c.same_stamps-repeats.ensures c.lower-least.ensures

pub returns-then-least-rows : goal.returns-then-least-rows
returns-then-least-rows c =
    repeated-at c.requires.0 _ c.requires.1 _ c.requires.2 _ _ c.loop-k.invariant (omega arith) (omega arith)

pub returns : goal.returns
returns c =
    repeated-none c.requires.0 _ c.requires.1 _ c.requires.2 _ _ c.loop-k.invariant (omega arith) (omega arith)
