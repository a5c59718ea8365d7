-- `judge_within::first_repeat` meets its contract: the arranged places are walked over.
use native.Mathlib.Omega.{arith}
use mathlib.Core.Bool.{false}
use Rattle.judge_within.proofs.Wanted.{arranged-few, front-is, front_long, front-in}
use Rattle.judge_within.proofs.first_repeat.Goals as goal

pub slice_bounds-first_repeated-end : goal.slice_bounds-first_repeated-end
slice_bounds-first_repeated-end c =
    let a = c.args in
    let few = arranged-few false a.nr a.core.now a.round.now in
    front-in a.scratch.now _ _ _ (omega (arith, few, c.requires.0)) c.arrange-m.ensures.number c.arrange-m.ensures.scratch

pub slice_bounds-first_repeated-end-2 : goal.slice_bounds-first_repeated-end-2
slice_bounds-first_repeated-end-2 c =
    let a = c.args in
    let few = arranged-few false a.nr a.core.now a.round.now in
    front_long a.scratch.now _ _ _ (omega (arith, few, c.requires.0)) c.arrange-m.ensures.number c.arrange-m.ensures.scratch

pub first_repeated-requires : goal.first_repeated-requires
first_repeated-requires c =
    let a = c.args in
    let few = arranged-few false a.nr a.core.now a.round.now in
    (a.nr, a.round.now, front-is a.scratch.now _ _ _ (omega (arith, few, c.requires.0)) c.arrange-m.ensures.number c.arrange-m.ensures.scratch)
