-- `judge_bus::unbalanced_tuples` meets its contract: what the walk passed is even, so what it left decides.
use mathlib.Core.Path.{◌∙◌}
use Prim.Native.Nat.{◌^◌, ◌<◌}
use native.Mathlib.Omega.{arith}
use lib.ListN.{length}
use Rattle.judge_scan.specs.Tables.{layout_of}
use Rattle.judge_links.proofs.Counting.{counts-fit}
use Rattle.judge_bus.proofs.Bus.{first_fits, second_fits, port-fits, uneven-left, uneven-port}
use Rattle.judge_bus.proofs.unbalanced_tuples.Goals as goal

pub count-t-requires : goal.count-t-requires
unfolding layout_of
count-t-requires c =
    let h = c.requires in
    (h.0, port-fits _ _ _ c.first_port-s.ensures (first_fits _ _ _ h.3), port-fits _ _ _ c.second_port-q.ensures (second_fits _ _ h.3))

pub count-u-requires : goal.count-u-requires
unfolding layout_of
count-u-requires c =
    let h = c.requires in
    (h.1, port-fits _ _ _ c.first_port-s.ensures (first_fits _ _ _ h.3), port-fits _ _ _ c.second_port-q.ensures (second_fits _ _ h.3))

pub differ-requires : goal.differ-requires
unfolding layout_of
differ-requires c =
    let h = c.requires in
    -- how long the tables can be
    let lengths : (length c.args.core.now < 2 ^ 63) × (length c.args.round.now < 2 ^ 63) = (omega arith, omega arith) in
    let t = counts-fit _ _ c.args.core.now _ _ _ h.0 c.count-t.ensures.0 lengths.0 in
    let u = counts-fit _ _ c.args.round.now _ _ _ h.1 c.count-u.ensures.0 lengths.1 in (t.0, t.1, u.0, u.1)

pub differ-requires-2 : goal.differ-requires-2
unfolding layout_of
differ-requires-2 c =
    let h = c.requires in
    -- how long the tables can be
    let lengths : (length c.args.core.now < 2 ^ 63) × (length c.args.round.now < 2 ^ 63) = (omega arith, omega arith) in
    let t = counts-fit _ _ c.args.core.now _ _ _ h.0 c.count-t.ensures.1 lengths.0 in
    let u = counts-fit _ _ c.args.round.now _ _ _ h.1 c.count-u.ensures.1 lengths.1 in (t.0, t.1, u.0, u.1)

pub returns : goal.returns
unfolding layout_of
returns c =
    let h = c.requires in
    let t = c.count-t.ensures in
    let u = c.count-u.ensures in
    let s = c.first_port-s.ensures in
    let q = c.second_port-q.ensures in (
      c.differ.ensures ∙ uneven-left _ _ _ _ _ _ _ _ h.2 h.0 h.1 t.0 u.0 ∙ uneven-port _ _ _ _ s,
      c.differ-2.ensures ∙ uneven-left _ _ _ _ _ _ _ _ h.2 h.0 h.1 t.1 u.1 ∙ uneven-port _ _ _ _ q,
    )
