use mathlib.Core.Path.{sym, ◌∙◌}
use mathlib.Core.Logic.{⊎_elim}
use Rattle.judge_within.proofs.Wanted.{put-none, put-more, put-past, put_all}
use Rattle.judge_within.proofs.places.put_places.Goals as goal

pub loop-p-init : goal.loop-p-init
loop-p-init c = put-none _ _ _

pub loop-p-preserved : goal.loop-p-preserved
loop-p-preserved c =
    let t = sym c.is_wanted.ensures in
    ⊎_elim
    (λ w. put-more _ _ _ _ _ _ _ _ c.loop-p.invariant c.loop-p-test.true w.out-is w.m-is (t ∙ w.if-is_wanted.true))
    (λ w. put-past _ _ _ _ _ _ _ _ c.loop-p.invariant c.loop-p-test.true w.out-is w.m-is (t ∙ w.if-is_wanted.false))
    c.if-is_wanted.branch-raw

pub shape_of-out : goal.shape_of-out
shape_of-out c = c.loop-p.invariant.long

pub returns : goal.returns
returns c = record { number = (put_all _ _ _ _ _ _ _ c.loop-p.invariant c.loop-p-test.false c.place_count-n.ensures).0; places = (put_all _ _ _ _ _ _ _ c.loop-p.invariant c.loop-p-test.false c.place_count-n.ensures).1 }
