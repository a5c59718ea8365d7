-- `keccak_rnd_interactions::put_tuple` meets its contract: the values, then the four words before them.
use mathlib.Core.Path.{ap, ◌∙◌}
use Prim.Native.Nat.{◌+◌}
use native.Mathlib.Omega.{arith}
use lib.ListN.{length}
use lib.Seq.{length-sets}
use Rattle.tuple.specs.declared.BusInteraction.{BusInteraction}
use Rattle.tuple.proofs.Words.{tuple-length, part_room, part-back, header-after}
use Rattle.keccak_rnd.specs.Tuples.{round_tuple}
use Rattle.keccak_rnd_interactions.proofs.put_tuple.Goals as goal

pub slice_bounds-row_tuple-count : goal.slice_bounds-row_tuple-count
slice_bounds-row_tuple-count c =
    let a = c.args in
    omega (arith, tuple-length (round_tuple a.row.now a.index))

pub slice_bounds-row_tuple-start : goal.slice_bounds-row_tuple-start
slice_bounds-row_tuple-start c =
    let a = c.args in
    omega (arith, tuple-length (round_tuple a.row.now a.index))

pub row_tuple-tuple-requires : goal.row_tuple-tuple-requires
row_tuple-tuple-requires c =
    let a = c.args in
    let r = c.requires in
    (r.0, r.1, part_room a.out.now a.at (round_tuple a.row.now a.index) r.2)

pub put_header-requires : goal.put_header-requires
put_header-requires c =
    let a = c.args in
    let t = round_tuple a.row.now a.index in
    let back = part-back a.out.now a.at t c.requires.2 _ c.row_tuple-tuple.ensures.words in
    omega (arith, tuple-length t, ap length back, length-sets a.out.now (a.at + 4) t.values)

pub overflow_add-result : goal.overflow_add-result
overflow_add-result c =
    let a = c.args in
    let t = round_tuple a.row.now a.index in
    omega (arith, tuple-length t, c.requires.2, ap (λ (b : BusInteraction). b.length) c.row_tuple-tuple.ensures.answer)

pub returns : goal.returns
returns c =
    let a = c.args in
    let t = round_tuple a.row.now a.index in
    let r = c.row_tuple-tuple in
    record {
      next = omega (arith, tuple-length t, ap (λ (b : BusInteraction). b.length) r.ensures.answer);
      words = c.put_header.ensures
          ∙ header-after a.out.now a.at t c.requires.2 _ r.result r.ensures.answer (part-back a.out.now a.at t c.requires.2 _ r.ensures.words);
    }
