-- `judge_within::places::arrange` meets its contract: the places that are wanted, sorted in place.
use mathlib.Core.Path.{ap}
use native.Mathlib.Omega.{arith}
use lib.ListN.{length}
use Rattle.sort_places.specs.Places.{place_count}
use Rattle.judge_within.specs.Places.{wanted}
use Rattle.judge_within.proofs.Arranged.{chosen-below}
use Rattle.judge_within.proofs.Wanted.{chosen-few, front-is, front_long, front-in, arranged-stored}
use Rattle.judge_within.proofs.places.arrange.Goals as goal

pub slice_bounds-sort_places-end : goal.slice_bounds-sort_places-end
slice_bounds-sort_places-end c =
    let a = c.args in
    let few = chosen-few (wanted a.whole a.core.now a.round.now) (place_count a.core.now a.round.now) in
    front-in _ _ _ _ (omega (arith, few, c.requires.0)) c.put_places-m.ensures.number c.put_places-m.ensures.places

pub slice_bounds-sort_places-end-2 : goal.slice_bounds-sort_places-end-2
slice_bounds-sort_places-end-2 c =
    let a = c.args in
    let few = chosen-few (wanted a.whole a.core.now a.round.now) (place_count a.core.now a.round.now) in
    front_long _ _ _ _ (omega (arith, few, c.requires.0)) c.put_places-m.ensures.number c.put_places-m.ensures.places

pub sort_places-requires : goal.sort_places-requires
sort_places-requires c =
    let a = c.args in
    let t = wanted a.whole a.core.now a.round.now in
    let few = chosen-few t (place_count a.core.now a.round.now) in
    let e = front-is _ _ _ _ (omega (arith, few, c.requires.0)) c.put_places-m.ensures.number c.put_places-m.ensures.places in
    (chosen-below t _ _ e, omega (arith, ap length e, few, c.requires.1))

pub returns : goal.returns
returns c =
    let a = c.args in
    let h = arranged-stored a.whole a.nr a.core.now a.round.now a.scratch.now c.put_places-m.new.out a.spare.now c.sort_places.new.places _ c.put_places-m.result
    c.requires.0 c.put_places-m.ensures.number c.put_places-m.ensures.places c.sort_places.ensures.places c.sort_places.ensures.spare in
    record { number = h.0; scratch = h.1; spare = h.2 }
