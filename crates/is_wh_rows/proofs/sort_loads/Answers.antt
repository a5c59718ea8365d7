-- `is_wh_rows::sort_loads` meets its contract: the loads, sorted in place.
use mathlib.Core.Path.{ap, ◌∙◌}
use mathlib.Core.List.{List}
use Prim.Native.Nat.{ℕ}
use native.Mathlib.Omega.{arith}
use lib.Seq.{sets}
use Rattle.sort.specs.Sorted.{sorted}
use Rattle.is_wh_rows.proofs.Filling.{loads-few, loads-front, front_long, loads-sorted}
use Rattle.is_wh_rows.proofs.sort_loads.Goals as goal

pub slice_bounds-sort-end : goal.slice_bounds-sort-end
slice_bounds-sort-end c =
    omega (arith, loads-few _ _ _ _ c.requires.0 c.put_loads-m.ensures.number c.put_loads-m.ensures.loads, c.requires.0, c.put_loads-m.auto.out)

pub slice_bounds-sort-end-2 : goal.slice_bounds-sort-end-2
slice_bounds-sort-end-2 c = front_long _ _ _ _ c.requires.0 c.put_loads-m.ensures.number c.put_loads-m.ensures.loads

pub sort-requires : goal.sort-requires
sort-requires c =
    let a = c.put_loads-m.ensures in
    omega (arith, front_long _ _ _ _ c.requires.0 a.number a.loads, loads-few _ _ _ _ c.requires.0 a.number a.loads, c.requires.1)

pub returns-clause-loads : goal.returns-clause-loads
returns-clause-loads c =
    let a = c.put_loads-m.ensures in
    loads-sorted _ _ _ _ c.requires.0 a.number a.loads c.sort.ensures.words

pub returns-clause-spare : goal.returns-clause-spare
returns-clause-spare c =
    let a = c.put_loads-m.ensures in
    c.sort.ensures.spare ∙ ap (λ (r : List ℕ). sets c.args.spare.now 0 (sorted r)) (loads-front _ _ _ _ c.requires.0 a.number a.loads)
