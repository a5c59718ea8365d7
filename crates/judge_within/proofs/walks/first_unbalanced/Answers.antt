use native.Mathlib.Omega.{arith}
use Rattle.judge_within.proofs.Groups.{apart-first}
use Rattle.judge_within.proofs.Unbalanced.{lowest-after}
use Rattle.judge_within.proofs.Steps.{unbalanced-start, unbalanced-at, unbalanced-none}
use Rattle.judge_within.proofs.walks.first_unbalanced.Goals as goal

pub loop-start-init : goal.loop-start-init
loop-start-init c =
    (omega arith, λ l. apart-first _ _, unbalanced-start _ _ _ c.args.places.now _ c.place_count-n.ensures)

pub group_from-g-requires : goal.group_from-g-requires
group_from-g-requires c =
    (c.requires, c.loop-start-test.true, c.loop-start.invariant.1 c.loop-start-test.true)

pub loop-start-preserved : goal.loop-start-preserved
loop-start-preserved c =
    let g = c.group_from-g.ensures in
    (g.inside, g.next, lowest-after _ _ _ _ c.requires _ _ _ _ _ c.loop-start.invariant.2 g c.loop-start-test.true c.lower-least.ensures)

pub returns-then-least-n : goal.returns-then-least-n
returns-then-least-n c =
    unbalanced-at _ _ _ _ c.requires _ _ _ c.place_count-n.ensures c.loop-start.invariant.2 c.loop-start-test.false c.if-least-n.true

pub returns : goal.returns
returns c =
    unbalanced-none _ _ _ _ c.requires _ _ _ c.place_count-n.ensures c.loop-start.invariant.2 c.loop-start-test.false c.if-least-n.false
